-- A line behind what stands in a text.
use Rattle.std.specs.Prelude.{◌≡◌, List, ◌++◌, ℕ, ◌+◌, ◌≤◌, ◌<◌, length, take, drop}

-- where it has room behind the first `done` bytes it stands there; else nothing is written, and 0 says so
pub record Said (line : List ℕ) (done : ℕ) (old : List ℕ) (r : ℕ) (new : List ℕ) : Type 0 where
  pub said : done + length line ≤ length old → (r ≡ length line) × (new ≡ take done old ++ (line ++ drop (done + length line) old))
  pub unsaid : length old < done + length line → (r ≡ 0) × (new ≡ old)
  pub some : 0 < length line
