-- Before a row every one passed is in range, and the number of units is that of the row's plant up to it, no more than the rows; the first that is not in range
-- ends the loop.
use mathlib.Core.Path.{◌≡◌, sym, ◌∙◌, ap}
use mathlib.Core.Bool.{Bool, true, false, cond}
use mathlib.Core.List.{[]}
use Prim.Native.Nat.{ℕ, ◌+◌, ◌*◌, ◌≤◌}
use native.Mathlib.Omega.{arith}
use lib.Dec.{eqb}
use lib.ListN.{length, get_or}
use borrow.Author.Tests.{le-leb, lt-leb, lt-ltb}
use Rattle.integers.proofs.Sums.{every_step, every_none, every_fails}
use Rattle.interval.specs.Lent.{passed_over, row_fine}
use Rattle.kept.specs.Range.{units_at, unit_fine, rows_fine}
use Rattle.answer.specs.Asked.{lent_members}
use Rattle.answer.proofs.UnitsHeld.{units_first, units_step, units_≤}
use Rattle.answer.proofs.rows.rows_in_range.Goals as goal
use Rattle.answer.proofs.rows.rows_in_range.Goals.{After-row_in_range, After-shared_slice_known-in-loop-row-1, At-loop-row, Start}

abbrev S : At-loop-row → Start
S l = (goal.at.At-loop-row l).Start

abbrev L : After-shared_slice_known-in-loop-row-1 → At-loop-row
L c = (goal.at.After-shared_slice_known-in-loop-row-1 c).At-loop-row

abbrev tests : At-loop-row → ℕ → Bool
tests l = unit_fine (lent_members [] (S l).args.homes.now (S l).args.rows.now)

-- no plant has more units than rows are passed, with this one
few : (l : At-loop-row) → l.loop-row.many ≤ l.loop-row.row + 1
few l = omega (arith, l.loop-row.invariant.1, units_≤ (S l).args.homes.now l.loop-row.row)

told :
    (c : After-row_in_range) → let l = L (goal.at.After-row_in_range c).After-shared_slice_known-in-loop-row-1 in
    row_fine (units_at (S l).args.homes.now l.loop-row.row) l.loop-row.row (S l).args.rows.now ≡ c.row_in_range.result
told c =
    let l = L (goal.at.After-row_in_range c).After-shared_slice_known-in-loop-row-1 in
    let a = (S l).args in
    let row = l.loop-row.row in
    let enough : l.loop-row.many ≤ 512 = omega (arith, few l, (S l).requires.0) in
    sym (rw (le-leb l.loop-row.many 512 enough, lt-ltb row 512 (omega arith), le-leb (8 * row + 8) (length a.rows.now) (omega arith)) at
    c.row_in_range.ensures ∙ ap (λ (n : ℕ). row_fine n row a.rows.now) l.loop-row.invariant.1)

-- the row is in range where the call says so
fine :
    (c : After-row_in_range) (t : Bool) → c.row_in_range.result ≡ t → let l = L (goal.at.After-row_in_range c).After-shared_slice_known-in-loop-row-1 in
    tests l l.loop-row.row ≡ t
fine c t e = rw (le-leb _ _ c.if-home-gt-PASSED_OVER.false) (told c ∙ e)

pub loop-row-init : goal.loop-row-init
loop-row-init c = (omega arith, sym (units_first _), every_none _)

pub returns-then-home-gt-PASSED_OVER : goal.returns-then-home-gt-PASSED_OVER
unfolding rows_fine
returns-then-home-gt-PASSED_OVER c =
    let l = L (goal.at.returns-then-home-gt-PASSED_OVER c).After-shared_slice_known-in-loop-row-1 in
    sym (every_fails _ (tests l) l.loop-row.row (omega arith) (rw (lt-leb _ _ c.if-home-gt-PASSED_OVER.true)))

pub returns-then-not-row_in_range : goal.returns-then-not-row_in_range
unfolding rows_fine
returns-then-not-row_in_range c =
    let l = L (goal.at.returns-then-not-row_in_range c).After-shared_slice_known-in-loop-row-1 in
    sym (every_fails _ (tests l) l.loop-row.row (omega arith) (fine (goal.at.returns-then-not-row_in_range c).After-row_in_range false (c.if-not-row_in_range.true)))

pub units_next-many-requires : goal.units_next-many-requires
units_next-many-requires c = let l = L (goal.at.units_next-many-requires c).After-shared_slice_known-in-loop-row-1 in omega (arith, few l, (S l).requires.0)

pub loop-row-preserved : goal.loop-row-preserved
loop-row-preserved c =
    let l = L (goal.at.loop-row-preserved c).After-shared_slice_known-in-loop-row-1 in
    let homes = (S l).args.homes.now in
    let row = l.loop-row.row in (
      omega arith,
      c.units_next-many.ensures ∙ ap (λ (n : ℕ). cond (eqb (get_or homes row 0) passed_over) (n + 1) 1) l.loop-row.invariant.1 ∙ sym (units_step homes row),
      every_step _ (tests l) l.loop-row.invariant.2 (fine (goal.at.loop-row-preserved c).After-row_in_range true (c.if-not-row_in_range.false)),
    )

pub returns : goal.returns
unfolding rows_fine
returns c = let e : c.loop-row.row ≡ (S (goal.at.returns c).At-loop-row).args.units = omega arith in sym (rw e at c.loop-row.invariant.2)
