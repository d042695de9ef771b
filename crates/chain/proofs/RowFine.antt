-- The row of a plant within its limits is in range, for as many units as it has, or more.
use mathlib.Core.Path.{◌≡◌, ◌∙◌, ap}
use mathlib.Core.Bool.{true}
use mathlib.Core.List.{List}
use Prim.Native.Nat.{ℕ, zero, suc, ◌+◌, ◌*◌, ◌≤◌, ◌<◌}
use native.Mathlib.Nat.{mul-le-mul_left}
use native.Mathlib.Omega.{arith}
use lib.IntN.{ℤ, nat_abs}
use borrow.Author.Tests.{le-leb}
use Rattle.integers.specs.Bounds.{Within}
use Rattle.integers.proofs.Bounds.{within_low}
use Rattle.integers.proofs.Tests.{le_leZ}
use Rattle.integers.proofs.Sums.{every_all}
use Rattle.rules.specs.declared.Direction.{Direction}
use Rattle.rules.specs.declared.Direction.TheVariants.{Raise, Lower}
use Rattle.rules.specs.Quantities.{points, measure_limit, performance_limit, unit_default_limit}
use Rattle.rules.specs.Book.{by, ByDirection, Defaults}
use Rattle.rules.specs.Fields.{default_fine, sized}
use Rattle.rules.specs.Plants.{Plant}
use Rattle.rules.specs.Performance.{performance}
use Rattle.laws.proofs.Limits.{DefaultFits, DefaultsFit, PlantFits}
use Rattle.laws.proofs.PerformanceLaws.{performance_within}
use Rattle.interval.specs.Lent.{six, row_each, in_row, row_of, row_fine}

default_passes : {limit : ℕ} {x : ℤ} → DefaultFits limit x → default_fine limit x ≡ true
default_passes f = rw (le_leZ (within_low f.size), le_leZ f.sign)

pub six_fine : (limit : ℕ) (f : ByDirection Defaults) → ((d : Direction) → DefaultsFit limit (by d f)) → (i : ℕ) → i < 6 → default_fine limit (six f i) ≡ true
six_fine limit f h zero l = default_passes (h Raise).payment
six_fine limit f h (suc zero) l = default_passes (h Raise).used
six_fine limit f h (suc (suc zero)) l = default_passes (h Raise).unused
six_fine limit f h (suc (suc (suc zero))) l = default_passes (h Lower).payment
six_fine limit f h (suc (suc (suc (suc zero)))) l = default_passes (h Lower).used
six_fine limit f h (suc (suc (suc (suc (suc zero))))) l = default_passes (h Lower).unused
six_fine limit f h (suc (suc (suc (suc (suc (suc i)))))) l = absurd (omega arith)

pub row_passes : (k row : ℕ) (rows : List ℤ) (w : ℕ → ℤ) (p : Plant) → PlantFits p → p.units ≤ k →
    ((t : ℕ) → t < points → Within measure_limit (w t)) → ((i : ℕ) → i < row_each → in_row rows row i ≡ row_of w p i) → row_fine k row rows ≡ true
unfolding row_fine
row_passes k row rows w p f few weights is =
    rw (
      size Raise 0 (is 0 (omega arith)),
      size Lower 1 (is 1 (omega arith)),
      every_all 6 (λ j. default_fine unit_default_limit (in_row rows row (2 + j))) (λ j b. rw (is (2 + j) (omega arith) ∙ past j) (six_fine unit_default_limit p.defaults f.defaults j b)),
    )
  where
    size : (d : Direction) (i : ℕ) → in_row rows row i ≡ performance d w p.deviation → sized (performance_limit * k) (in_row rows row i) ≡ true
    size d i e =
        rw e (le-leb (nat_abs (performance d w p.deviation)) (performance_limit * k)
        (omega (arith, (performance_within p.units d w p.deviation weights f.deviation).size, mul-le-mul_left performance_limit few)))

    -- after two performances come the defaults
    past : (j : ℕ) → row_of w p (2 + j) ≡ six p.defaults j
    past j = let e : 2 + j ≡ suc (suc j) = omega arith in ap (row_of w p) e
