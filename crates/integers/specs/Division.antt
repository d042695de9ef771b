-- Quotient and remainder, as the share takes them.
use Rattle.std.specs.Prelude.{◌≡◌, ℕ, ◌+◌, ◌*◌, ◌<◌}

-- x is q times W, and r, which is less than W
pub record Divided (x W q r : ℕ) : Type 0 where
  pub is : x ≡ q * W + r
  pub small : r < W
