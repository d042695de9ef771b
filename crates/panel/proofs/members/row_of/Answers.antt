-- Before a row the members passed and those still to pass are the member's number: the row of the set at which none is to pass is the member's, and where the
-- rows end first there is none.
use mathlib.Core.Path.{◌≡◌, sym, ◌∙◌, ap}
use mathlib.Core.Bool.{Bool, true, false}
use Prim.Native.Nat.{ℕ, ◌+◌}
use native.Mathlib.Omega.{arith}
use lib.ListN.{length, get_or}
use Rattle.integers.specs.Sums.{one}
use Rattle.panel.specs.Past.{of_set}
use Rattle.panel.proofs.MembersLaws.{rows, rows_none, rows_more, row_at_is, past_rows, home_least}
use Rattle.panel.proofs.members.row_of.Goals as goal
use Rattle.panel.proofs.members.row_of.Goals.{After-in_set, At-loop-at, «then-in_set+else-before-eq0», else-in_set}

abbrev L : After-in_set → At-loop-at
L c = (goal.at.After-in_set c).At-loop-at

-- one row more, by whether it is of the set
again :
    (c : After-in_set) (t : Bool) → c.in_set.result ≡ t → let l = L c in let a = l.args in
    length (rows a.set a.homes.now (l.loop-at.at + 1)) ≡ length (rows a.set a.homes.now l.loop-at.at) + one t
again c t e =
    let l = L c in
    let a = l.args in
    rows_more a.set a.homes.now l.loop-at.at t (sym c.in_set.ensures ∙ e)

pub loop-at-init : goal.loop-at-init
loop-at-init c = let a = c.args in (omega arith, omega (arith, rows_none a.set a.homes.now))

pub in_set-requires : goal.in_set-requires
in_set-requires c = home_least c.requires c.loop-at.at (omega arith)

pub returns-then-before-eq0 : goal.returns-then-before-eq0
returns-then-before-eq0 c =
    let l = L (goal.at.returns-then-before-eq0 c).After-in_set in
    let a = l.args in
    let covered : of_set a.set a.homes.now l.loop-at.at ≡ true = sym c.in_set.ensures ∙ c.if-in_set.true in
    let here : length (rows a.set a.homes.now l.loop-at.at) ≡ a.member = omega (arith, l.loop-at.invariant.1, c.if-before-eq0.true) in
    record {
      is =
          sym (ap (λ (k : ℕ). get_or (rows a.set a.homes.now a.units) k a.units) (sym here)
          ∙ row_at_is a.set a.homes.now a.units l.loop-at.at (omega arith) covered);
      within = omega arith;
      covered = λ _. covered;
    }

pub loop-at-preserved : goal.loop-at-preserved
loop-at-preserved c = (
  omega arith,
  elim c.if-in_set.branch [
    | «then-in_set+else-before-eq0» w ↦
        omega (arith, w.before-is, w.if-before-eq0.false, c.loop-at.invariant.1, again (goal.at.loop-at-preserved c).After-in_set true w.if-in_set.true)
    | else-in_set w ↦
        omega (arith, w.before-is, c.loop-at.invariant.1, again (goal.at.loop-at-preserved c).After-in_set false w.if-in_set.false)
  ],
)

pub returns : goal.returns
returns c =
    let a = c.args in
    let all : c.loop-at.at ≡ a.units = omega arith in
    let past = rw all at c.loop-at.invariant.1 in
    record {
      is = sym (past_rows a.set a.homes.now a.units a.member (omega (arith, past)));
      within = omega arith;
      covered = λ h. absurd (omega arith);
    }
