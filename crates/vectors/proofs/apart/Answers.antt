-- `vectors::apart` is safe: two bounded numbers have a difference that fits, and the test tells which of the two is not negative.
use Rattle.std.proofs.Common.{ℤ, pos, ◌-ℤ◌, ◌≤ℤ◌, ◌<ℤ◌, arith, to_z-of_z, w64, SFits}
use Rattle.integers.proofs.Pairs.{v, ◌⊖◌, le!, lt_in, le_in}
use Rattle.integers.proofs.Bounds.{within_difference, fits_within}
use Rattle.integers.proofs.Tests.{ltZ_true, ltZ_false}
use Rattle.integers.proofs.Casts.{to_unsigned}
use Rattle.vectors.proofs.apart.Goals as goal
use Rattle.vectors.proofs.apart.Goals.{After-bounded-y}

x_fits : (c : After-bounded-y) → SFits w64 c.bounded-x.result
x_fits c = record { sfits = c.bounded-x.type_inv }

y_fits : (c : After-bounded-y) → SFits w64 c.bounded-y.result
y_fits c = record { sfits = c.bounded-y.type_inv }

less_fits : (c : After-bounded-y) → SFits w64 (c.bounded-y.result -ℤ c.bounded-x.result)
less_fits c = fits_within tt (within_difference c.bounded-y.ensures c.bounded-x.ensures)

more_fits : (c : After-bounded-y) → SFits w64 (c.bounded-x.result -ℤ c.bounded-y.result)
more_fits c = fits_within tt (within_difference c.bounded-x.ensures c.bounded-y.ensures)

above : (x y : ℤ) → x ≤ℤ y → pos 0 ≤ℤ (y -ℤ x)
above x y h = le! (v (pos 0)) (v y ⊖ v x) (omega (arith, le_in h))

strictly : (x y : ℤ) → x <ℤ y → pos 0 ≤ℤ (y -ℤ x)
strictly x y h = le! (v (pos 0)) (v y ⊖ v x) (omega (arith, lt_in h))

pub overflow_sub-result : goal.overflow_sub-result
overflow_sub-result c = simp (to_z-of_z, x_fits (goal.at.overflow_sub-result c).After-bounded-y, y_fits (goal.at.overflow_sub-result c).After-bounded-y) (less_fits (goal.at.overflow_sub-result c).After-bounded-y)

pub overflow_cast-result : goal.overflow_cast-result
overflow_cast-result c =
    let h : c.bounded-x.result <ℤ c.bounded-y.result = ltZ_true (simp (to_z-of_z, x_fits (goal.at.overflow_cast-result c).After-bounded-y, y_fits (goal.at.overflow_cast-result c).After-bounded-y) at c.if-x-y.true) in
    simp (to_z-of_z, x_fits (goal.at.overflow_cast-result c).After-bounded-y, y_fits (goal.at.overflow_cast-result c).After-bounded-y, less_fits (goal.at.overflow_cast-result c).After-bounded-y) (to_unsigned tt (less_fits (goal.at.overflow_cast-result c).After-bounded-y) (strictly _ _ h))

pub overflow_sub-result-2 : goal.overflow_sub-result-2
overflow_sub-result-2 c = simp (to_z-of_z, x_fits (goal.at.overflow_sub-result-2 c).After-bounded-y, y_fits (goal.at.overflow_sub-result-2 c).After-bounded-y) (more_fits (goal.at.overflow_sub-result-2 c).After-bounded-y)

pub overflow_cast-result-2 : goal.overflow_cast-result-2
overflow_cast-result-2 c =
    let h : c.bounded-y.result ≤ℤ c.bounded-x.result = ltZ_false (simp (to_z-of_z, x_fits (goal.at.overflow_cast-result-2 c).After-bounded-y, y_fits (goal.at.overflow_cast-result-2 c).After-bounded-y) at c.if-x-y.false) in
    simp (to_z-of_z, x_fits (goal.at.overflow_cast-result-2 c).After-bounded-y, y_fits (goal.at.overflow_cast-result-2 c).After-bounded-y, more_fits (goal.at.overflow_cast-result-2 c).After-bounded-y) (to_unsigned tt (more_fits (goal.at.overflow_cast-result-2 c).After-bounded-y) (above _ _ h))
