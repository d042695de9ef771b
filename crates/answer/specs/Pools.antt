-- The pools by their fields, as the code has them (01, Cents): they are those of `rules`, and within the limit of T. Whether a sign has a member is
-- told by what a share of any amount leaves unplaced: nothing, or all of it.
use Rattle.std.specs.Prelude.{Bool, cond, not, ◌&&◌, ℕ, ◌*◌, min, eqb}
use Rattle.integers.specs.Nearest.{nearestℕ}
use Rattle.rules.specs.Cents.{priced}

-- ---- the pools
-- `up`: a member is helpful; `down`: one is unhelpful
abbrev pub pool_cents : ℕ → ℕ → Bool → Bool → ℕ
pool_cents price rcr up down = cond (up && down) (priced price rcr) 0

abbrev pub used_cents : ℕ → ℕ → ℕ → Bool → ℕ
used_cents cost enabled used reliable = cond (reliable && not (eqb enabled 0)) (nearestℕ (cost * min used enabled) enabled) 0
