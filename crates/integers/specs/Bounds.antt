-- A calculus of bounds. `Within k a` says that a is at most k in size; a bound of an expression follows from those of its parts,
-- and a number whose bound is below a width's half fits that width.
use Rattle.std.specs.Prelude.{ℕ, ◌≤◌, ℤ, nat_abs}

-- ---- bounds
pub record Within (k : ℕ) (a : ℤ) : Type 0 where
  pub size : nat_abs a ≤ k
