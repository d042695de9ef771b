-- What the readers of single numbers promise, for every list of bytes and every place.
use Rattle.std.specs.Prelude.{◌≡◌, List, ℕ, ℤ}
use Rattle.rules.specs.Bytes.{number_at, signed}

-- n bytes at a place, as an unsigned number
pub record Unsigned (n place : ℕ) (bytes : List ℕ) (r : ℕ) : Type 0 where
  pub reply : r ≡ number_at n place bytes

-- an unsigned number of n bytes read as a signed one
pub record Turned (n x : ℕ) (r : ℤ) : Type 0 where
  pub reply : r ≡ signed n x
