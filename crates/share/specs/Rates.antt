-- What a share prepares once, so that no weight needs a division: T/W and T mod W, and the ratio, (T mod W)·2^64/W rounded down. Beside it, what
-- the ratio's product with a weight comes to.
use Rattle.std.specs.Prelude.{ℕ, ◌+◌, ◌*◌, ◌^◌, ◌<◌, ◌≤◌}
use Rattle.rules.specs.Quantities.{total_limit, weight_limit}
use Rattle.share.specs.declared.part.Rate.{Rate}

-- T
abbrev pub total_of : Rate → ℕ
total_of r = r.whole * r.sum + r.rest

pub record Rated (r : Rate) : Type 0 where
  pub total : total_of r ≤ total_limit
  pub below : r.rest < r.sum
  pub small : r.sum ≤ weight_limit
  pub low : r.ratio * r.sum ≤ r.rest * 2 ^ 64
  pub high : r.rest * 2 ^ 64 < r.ratio * r.sum + r.sum
