-- The digits of what is left of the number belong before those that are put; each turn puts four.
use mathlib.Core.Path.{◌≡◌, ◌∙◌}
use mathlib.Core.List.{List}
use Prim.Native.Nat.{ℕ, ◌<◌}
use native.Mathlib.Omega.{arith}
use Rattle.listing.proofs.PiecesLaws.{Spelt, spelt_none, spelt_two, spelt_four, spelt_both, spelt_all}
use Rattle.listing.proofs.pieces.put_digits.Goals as goal
use Rattle.listing.proofs.pieces.put_digits.Goals.{At-loop-rest, Joined-rest-ge100, Start, then-rest-ge100, else-rest-ge100}

abbrev start : At-loop-rest → Start
start l = (goal.at.At-loop-rest l).Start

-- what is left of the number after the turns has one or two digits, once two more are put where it has more
record Ending (n at : ℕ) (old : List ℕ) (rest to : ℕ) (line : List ℕ) : Type 0 where
  spelt : Spelt n at old rest to line
  few : rest < 100

alike :
    {n at rest rest' to to' : ℕ} {old line line' : List ℕ} → line' ≡ line → rest' ≡ rest → to' ≡ to → Ending n at old rest to line →
    Ending n at old rest' to' line'
alike e f g x = rw (e, f, g) x

ending :
    (j : Joined-rest-ge100) → let a = (start (goal.at.Joined-rest-ge100 j).At-loop-rest).args in
    Ending a.n a.at a.line.now j.if-rest-ge100.rest j.if-rest-ge100.to j.if-rest-ge100.line
ending j =
    let begun = (start (goal.at.Joined-rest-ge100 j).At-loop-rest).requires in
    elim j.if-rest-ge100.branch [
      | then-rest-ge100 w ↦
          alike (w.line-is ∙ w.put_two-then-rest-ge100.ensures) w.rest-is w.to-is
          (record { spelt = spelt_two begun j.loop-rest.invariant w.if-rest-ge100.true; few = omega (arith, j.loop-rest-test.false) })
      | else-rest-ge100 w ↦ alike w.line-is w.rest-is w.to-is (record { spelt = j.loop-rest.invariant; few = w.if-rest-ge100.false })
    ]

pub loop-rest-init : goal.loop-rest-init
loop-rest-init c = spelt_none c.args.n c.args.at c.args.line.now (omega (arith, c.ranges))

pub loop-rest-preserved : goal.loop-rest-preserved
loop-rest-preserved c =
    let low = c.put_two.ensures in
    rw (c.put_two-in-loop-rest.ensures, low) (spelt_four (start (goal.at.loop-rest-preserved c).At-loop-rest).requires c.loop-rest.invariant c.loop-rest-test.true)

pub returns-then-rest-lt10 : goal.returns-then-rest-lt10
returns-then-rest-lt10 c =
    spelt_all (start (goal.at.returns-then-rest-lt10 c).At-loop-rest).requires (ending (goal.at.returns-then-rest-lt10 c).Joined-rest-ge100).spelt c.if-rest-lt10.true

pub returns : goal.returns
returns c =
    rw c.put_two-2.ensures
    (spelt_both (start (goal.at.returns c).At-loop-rest).requires (ending (goal.at.returns c).Joined-rest-ge100).spelt c.if-rest-lt10.false (ending (goal.at.returns c).Joined-rest-ge100).few)
