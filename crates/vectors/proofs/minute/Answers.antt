-- `vectors::minute` is safe: bounded numbers times 10 and 75 fit.
use Rattle.std.proofs.Common.{pos, ◌-ℤ◌, to_z-of_z, w64, SFits}
use Rattle.integers.specs.Bounds.{Within}
use Rattle.integers.proofs.Bounds.{within_literal, within_difference, within_product, fits_within}
use Rattle.vectors.proofs.minute.Goals as goal
use Rattle.vectors.proofs.minute.Goals.{After-bounded-2}

small : (c : After-bounded-2) → SFits w64 c.bounded-2.result
small c = record { sfits = c.bounded-2.type_inv }

less : (c : After-bounded-2) → Within 10_028_890 (pos 28_890 -ℤ c.bounded-2.result)
less c = within_difference (within_literal {k = 28_890} {a = pos 28_890} tt) c.bounded-2.ensures

less_fits : (c : After-bounded-2) → SFits w64 (pos 28_890 -ℤ c.bounded-2.result)
less_fits c = fits_within tt (less c)

pub overflow_mul-bounded : goal.overflow_mul-bounded
overflow_mul-bounded c =
    let f : SFits w64 c.bounded.result = record { sfits = c.bounded.type_inv } in
    simp (to_z-of_z, f) (fits_within tt (within_product (within_literal {k = 10} {a = pos 10} tt) c.bounded.ensures))

pub overflow_sub-bounded : goal.overflow_sub-bounded
overflow_sub-bounded c = simp (to_z-of_z, small (goal.at.overflow_sub-bounded c).After-bounded-2) (less_fits (goal.at.overflow_sub-bounded c).After-bounded-2)

pub overflow_mul-bounded-2 : goal.overflow_mul-bounded-2
overflow_mul-bounded-2 c = simp (to_z-of_z, small (goal.at.overflow_mul-bounded-2 c).After-bounded-2, less_fits (goal.at.overflow_mul-bounded-2 c).After-bounded-2) (fits_within tt (within_product (within_literal {k = 75} {a = pos 75} tt) (less (goal.at.overflow_mul-bounded-2 c).After-bounded-2)))
