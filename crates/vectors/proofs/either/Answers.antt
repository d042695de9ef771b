-- `vectors::either` is safe: the sum of two bounded numbers fits.
use Rattle.std.proofs.Common.{to_z-of_z, w64, SFits}
use Rattle.integers.proofs.Bounds.{within_sum, fits_within}
use Rattle.vectors.proofs.either.Goals as goal

pub overflow_add-result : goal.overflow_add-result
overflow_add-result c =
    let f : SFits w64 c.bounded.result = record { sfits = c.bounded.type_inv } in
    let g : SFits w64 c.bounded-2.result = record { sfits = c.bounded-2.type_inv } in
    simp (to_z-of_z, f, g) (fits_within tt (within_sum c.bounded.ensures c.bounded-2.ensures))
