-- Before a row the count is that of the set's rows among those passed.
use mathlib.Core.Path.{◌≡◌, sym, ◌∙◌}
use mathlib.Core.Bool.{Bool, true, false}
use Prim.Native.Nat.{◌+◌, ◌≤◌}
use native.Mathlib.Omega.{arith}
use lib.ListN.{length}
use Rattle.integers.specs.Sums.{one}
use Rattle.panel.proofs.MembersLaws.{rows, rows_none, rows_more, rows_few, home_least}
use Rattle.panel.proofs.members.rows_in.Goals as goal
use Rattle.panel.proofs.members.rows_in.Goals.{After-in_set, At-loop-row, then-in_set, else-in_set}

abbrev L : After-in_set → At-loop-row
L c = (goal.at.After-in_set c).At-loop-row

few : (l : At-loop-row) → let a = l.args in length (rows a.set a.homes.now l.loop-row.row) ≤ l.loop-row.row
few l = let a = l.args in rows_few a.set a.homes.now l.loop-row.row

-- one row more, by whether it is of the set
again :
    (c : After-in_set) (t : Bool) → c.in_set.result ≡ t → let l = L c in let a = l.args in
    l.loop-row.rows + one t ≡ length (rows a.set a.homes.now (l.loop-row.row + 1))
again c t e =
    let l = L c in
    let a = l.args in
    omega (arith, l.loop-row.invariant.1, rows_more a.set a.homes.now l.loop-row.row t (sym c.in_set.ensures ∙ e))

pub loop-row-init : goal.loop-row-init
loop-row-init c = (omega arith, sym (rows_none _ _))

pub in_set-requires : goal.in_set-requires
in_set-requires c = home_least c.requires c.loop-row.row (omega arith)

pub overflow_add-rows : goal.overflow_add-rows
overflow_add-rows c = let l = L (goal.at.overflow_add-rows c).After-in_set in omega (arith, l.loop-row.invariant.1, few l, l.requires.few)

pub loop-row-preserved : goal.loop-row-preserved
loop-row-preserved c = (
  omega arith,
  elim c.if-in_set.branch [
    | then-in_set w ↦ w.rows-is ∙ again (goal.at.loop-row-preserved c).After-in_set true w.if-in_set.true
    | else-in_set w ↦ omega (arith, w.rows-is, again (goal.at.loop-row-preserved c).After-in_set false w.if-in_set.false)
  ],
)

pub returns : goal.returns
returns c =
    let e : c.loop-row.row ≡ c.args.units = omega arith in
    (rw e at c.loop-row.invariant.1, omega (arith, c.loop-row.invariant.1, few (goal.at.returns c).At-loop-row))
