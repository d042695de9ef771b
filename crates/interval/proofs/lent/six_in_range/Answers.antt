-- Before default i every one passed is in range; the first that is not ends the loop.
use mathlib.Core.Path.{◌≡◌, sym, ◌∙◌, subst}
use mathlib.Core.Bool.{Bool, true}
use Prim.Native.Nat.{ℕ, ◌+◌}
use lib.Dec.{leb}
use lib.ListN.{length}
use native.Mathlib.Omega.{arith}
use borrow.Author.Rules.{sfits_of}
use borrow.Author.Tests.{le-leb, lt-leb}
use mir.Facts.{to_z-of_z}
use Rattle.integers.specs.Sums.{every}
use Rattle.integers.proofs.Sums.{every_step, every_none, every_fails}
use Rattle.interval.specs.Ranges.{fine_from}
use Rattle.interval.proofs.lent.six_in_range.Goals as goal
use Rattle.interval.proofs.lent.six_in_range.Goals.{After-within_bounds, At-loop-i, Start}

abbrev S : At-loop-i → Start
S l = (goal.at.At-loop-i l).Start

abbrev L : After-within_bounds → At-loop-i
L c = (goal.at.After-within_bounds c).At-loop-i

-- past the two tests the six are there
there : (l : At-loop-i) → leb ((S l).args.start + 6) (length (S l).args.defaults.now) ≡ true
there l = le-leb ((S l).args.start + 6) (length (S l).args.defaults.now) (omega (arith, l.if-defaults-lt6.false, l.if-defaults-start.false))

abbrev tests : After-within_bounds → ℕ → Bool
tests c i = let a = (S (L c)).args in fine_from a.least a.defaults.now (a.start + i)

told : (c : After-within_bounds) → tests c (L c).loop-i.i ≡ c.within_bounds.result
told c = sym (rw (to_z-of_z (S (L c)).ranges.least, to_z-of_z (sfits_of c.within_bounds-arg-1.given)) at c.within_bounds.ensures)

-- as the invariant has it of the parameter
passed :
    (l : At-loop-i) → every l.loop-i.i
    (λ j. fine_from (S l).args.least (S l).args.defaults.now ((S l).args.start + j)) ≡ true
passed l = rw (to_z-of_z (S l).ranges.least) at l.loop-i.invariant.1

pub returns-then-defaults-lt6 : goal.returns-then-defaults-lt6
returns-then-defaults-lt6 c = rw (lt-leb (c.args.start + 6) (length c.args.defaults.now) (omega (arith, c.if-defaults-lt6.true)))

pub returns-then-defaults-start : goal.returns-then-defaults-start
returns-then-defaults-start c =
    rw (lt-leb (c.args.start + 6) (length c.args.defaults.now) (omega (arith, c.if-defaults-lt6.false, c.if-defaults-start.true)))

pub loop-i-init : goal.loop-i-init
loop-i-init c = (omega arith, every_none _)

pub returns-then-not-within_bounds : goal.returns-then-not-within_bounds
returns-then-not-within_bounds c =
    rw (there (L (goal.at.returns-then-not-within_bounds c).After-within_bounds))
    (sym (every_fails 6 (tests (goal.at.returns-then-not-within_bounds c).After-within_bounds) (L (goal.at.returns-then-not-within_bounds c).After-within_bounds).loop-i.i (omega arith) (told (goal.at.returns-then-not-within_bounds c).After-within_bounds ∙ c.if-not-within_bounds.true)))

pub loop-i-preserved : goal.loop-i-preserved
loop-i-preserved c =
    rw (to_z-of_z (S (L (goal.at.loop-i-preserved c).After-within_bounds)).ranges.least)
    (omega arith, every_step _ (tests (goal.at.loop-i-preserved c).After-within_bounds) (passed (L (goal.at.loop-i-preserved c).After-within_bounds)) (told (goal.at.loop-i-preserved c).After-within_bounds ∙ c.if-not-within_bounds.false))

pub returns : goal.returns
returns c =
    let e : c.loop-i.i ≡ 6 = omega arith in
    rw (there (goal.at.returns c).At-loop-i) (sym (subst (λ (n : ℕ). every n (λ j. fine_from (S (goal.at.returns c).At-loop-i).args.least (S (goal.at.returns c).At-loop-i).args.defaults.now ((S (goal.at.returns c).At-loop-i).args.start + j)) ≡ true) e (passed (goal.at.returns c).At-loop-i)))
