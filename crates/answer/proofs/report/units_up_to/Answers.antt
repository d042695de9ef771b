-- The rows walked back over are all passed over, so the units up to the row are as many more than those up to where the walk stands.
use mathlib.Core.Path.{◌≡◌, ◌∙◌, ap}
use mathlib.Core.Bool.{Bool, cond}
use mathlib.Core.List.{List}
use Prim.Native.Nat.{ℕ, ◌+◌, ◌-◌, ◌<◌}
use native.Mathlib.Omega.{arith}
use lib.Dec.{eqb}
use lib.ListN.{get_or}
use borrow.Author.Tests.{eq-eqb, ne_eqb}
use Rattle.interval.specs.Lent.{passed_over}
use Rattle.kept.specs.Range.{units_at}
use Rattle.answer.proofs.UnitsHeld.{units_first, units_step}
use Rattle.answer.proofs.report.units_up_to.Goals as goal
use Rattle.answer.proofs.report.units_up_to.Goals.{After-shared_slice_known-1, At-loop-before}

-- from the row before a row, by whether it is passed over
from_before :
    (homes : List ℕ) (n : ℕ) (s : Bool) → 0 < n → eqb (get_or homes (n - 1) 0) passed_over ≡ s →
    units_at homes n ≡ cond s (units_at homes (n - 1) + 1) 1
from_before homes n s some e =
    let whole : n ≡ n - 1 + 1 = omega arith in
    ap (λ (k : ℕ). units_at homes k) whole ∙ units_step homes (n - 1) ∙ ap (λ (t : Bool). cond t (units_at homes (n - 1) + 1) 1) e

abbrev L : After-shared_slice_known-1 → At-loop-before
L c = (goal.at.After-shared_slice_known-1 c).At-loop-before

pub loop-before-init : goal.loop-before-init
loop-before-init c = (omega arith, omega arith, omega arith)

pub returns-then-homes-before-ne-PASSED_OVER : goal.returns-then-homes-before-ne-PASSED_OVER
returns-then-homes-before-ne-PASSED_OVER c =
    let l = L (goal.at.returns-then-homes-before-ne-PASSED_OVER c).After-shared_slice_known-1 in
    omega (arith, from_before l.args.homes.now l.loop-before.before _ (omega arith) (ne_eqb _ _ c.if-homes-before-ne-PASSED_OVER.true))

pub loop-before-preserved : goal.loop-before-preserved
loop-before-preserved c =
    let l = L (goal.at.loop-before-preserved c).After-shared_slice_known-1 in
    (omega arith, omega arith, omega (arith, from_before l.args.homes.now l.loop-before.before _ (omega arith) (eq-eqb _ _ c.if-homes-before-ne-PASSED_OVER.false)))

pub returns : goal.returns
returns c =
    let homes = c.args.homes.now in
    let none : c.loop-before.before ≡ 0 = omega arith in
    omega (arith, ap (λ (n : ℕ). units_at homes n) none, units_first homes)
