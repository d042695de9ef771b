-- The whole number nearest to n / d, halves away from zero; and that it is the only one.
use Rattle.std.specs.Prelude.{ℕ, suc, ◌+◌, ◌*◌, ◌/◌, ℤ, pos, negsuc, neg_ℤ}

-- a / d and a half, the whole part
abbrev pub nearestℕ : ℕ → ℕ → ℕ
nearestℕ a d = (2 * a + d) / (2 * d)

-- the sign stays
abbrev pub nearest : ℤ → ℕ → ℤ
nearest (pos a) d = pos (nearestℕ a d)
nearest (negsuc a) d = neg_ℤ (pos (nearestℕ (suc a) d))
