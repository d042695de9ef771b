-- Numbers within bounds, as the loops that test them go.
use Rattle.std.specs.Prelude.{Bool, ◌&&◌, List, ℕ, ◌+◌, ℤ, pos, get_or}
use Rattle.std.specs.Int.Signed.{le_z}
use Rattle.integers.specs.Sums.{every}

-- six defaults from a place on: at least so much, and at most 0
abbrev pub fine_from : ℤ → List ℤ → ℕ → Bool
fine_from least xs i = le_z least (get_or xs i (pos 0)) && le_z (get_or xs i (pos 0)) (pos 0)

abbrev pub six_fine : ℤ → ℕ → List ℤ → Bool
six_fine least start xs = every 6 (λ i. fine_from least xs (start + i))
