-- A row of another region adds nothing, a bad unit one row, a good one its performance too.
use mathlib.Core.Path.{◌≡◌, refl, sym, ◌∙◌}
use mathlib.Core.Bool.{true, false}
use Prim.Native.Nat.{◌≤◌, ◌%◌}
use lib.Dec.{eqb}
use lib.IntN.{+ℤ_idr}
use lib.ListN.{get_or}
use mir.Syntax.{w64}
use mir.Val.{to_z, of_z}
use mir.Facts.{to_z-of_z}
use native.Mathlib.Omega.{arith}
use borrow.Author.Rules.{sfits_of}
use borrow.Author.Tests.{eq-eqb, ne_eqb}
use Rattle.interval.specs.Lent.{in_row}
use Rattle.answer.proofs.ResidualLaws.{Fitting, holds_more, few_held, row_joins, added_fits, added_back}
use Rattle.answer.proofs.residual.with_row.Goals as goal
use Rattle.answer.proofs.residual.with_row.Goals.{After-shared_slice_known-2-1, Else-not-is_good, Else-region-home, Start}

abbrev start : After-shared_slice_known-2-1 → Start
start c = (goal.at.After-shared_slice_known-2-1 c).Start

few : (c : After-shared_slice_known-2-1) → ((start c).args.held.units ≤ 512) × ((start c).args.held.good ≤ 512)
few c = let s = start c in few_held s.requires.1 (omega (arith, s.requires.0.few))

abbrev met : Else-not-is_good → Else-region-home
met c = (goal.at.Else-not-is_good c).Else-region-home

abbrev begun : Else-not-is_good → Start
begun c = start (goal.at.Else-region-home (met c)).After-shared_slice_known-2-1

joins :
    (c : Else-not-is_good) → let a = (begun c).args in
    Fitting a.held.sum (in_row a.rows.now a.row a.at)
joins c =
    let s = begun c in
    row_joins s.requires.0 s.requires.1 (eq-eqb _ _ (met c).if-region-home.false) (sym c.is_good.ensures ∙ c.if-not-is_good.false)

pub overflow_cast-home : goal.overflow_cast-home
overflow_cast-home c = omega (arith, c.type_inv.homes (start (goal.at.overflow_cast-home c).After-shared_slice_known-2-1).args.row)

pub returns-then-region-home : goal.returns-then-region-home
returns-then-region-home c =
    let s = start (goal.at.returns-then-region-home c).After-shared_slice_known-2-1 in
    let a = s.args in
    holds_more s.requires.1 false (eqb (get_or a.homes.now a.row 0 % 2) 1) (ne_eqb _ _ c.if-region-home.true) refl (omega arith) (omega arith) (sym (+ℤ_idr _))

pub overflow_add-units : goal.overflow_add-units
overflow_add-units c = omega (arith, few (goal.at.overflow_add-units c).After-shared_slice_known-2-1)

pub returns-then-not-is_good : goal.returns-then-not-is_good
returns-then-not-is_good c =
    let s = start (goal.at.returns-then-not-is_good c).After-shared_slice_known-2-1 in
    let sum = s.args.held.sum in
    let back : to_z w64 (of_z w64 sum) ≡ sum = to_z-of_z {w = w64} (sfits_of c.struct_told-1.given.1.1.0.1) in
    holds_more s.requires.1 true false (eq-eqb _ _ c.if-region-home.false) (sym c.is_good.ensures ∙ c.if-not-is_good.true) refl (omega arith)
    (back ∙ sym (+ℤ_idr sum))

pub overflow_add-result : goal.overflow_add-result
overflow_add-result c = omega (arith, few (goal.at.Else-region-home (met (goal.at.overflow_add-result c).Else-not-is_good)).After-shared_slice_known-2-1)

pub overflow_add-result-3 : goal.overflow_add-result-3
overflow_add-result-3 c = added_fits (joins (goal.at.overflow_add-result-3 c).Else-not-is_good)

pub returns : goal.returns
returns c =
    let e = met (goal.at.returns c).Else-not-is_good in
    let s = start (goal.at.Else-region-home e).After-shared_slice_known-2-1 in
    holds_more s.requires.1 true true (eq-eqb _ _ e.if-region-home.false) (sym c.is_good.ensures ∙ c.if-not-is_good.false) refl refl
    (added_back (joins (goal.at.returns c).Else-not-is_good))
