-- Our own factors as a sheet, under a rule for members with equal remainders: the one that stands since R-9, the one before it, or any other.
use Rattle.std.specs.Prelude.{Bool, List, map, ℕ, ℤ, pos, ◌-ℤ◌}
use Rattle.integers.specs.Pairs.{gain, loss}
use Rattle.integers.specs.Totals.{numbered}
use Rattle.integers.proofs.Ranks.{Total}
use Rattle.rules.specs.declared.Side.{Side}
use Rattle.rules.specs.Quantities.{billion}
use Rattle.rules.specs.Share.{weight_at, share_by}
use Rattle.rules.specs.Sheet.{on}

-- 1,000,000,000 is shared over the positive performances, and with a minus sign over the negative ones (01, Factors)
abbrev pub factor_by : ((ℕ → ℕ) → ℕ → ℕ → Bool) → List ℤ → ℕ → ℤ
factor_by rule ps i = pos (share_by rule billion (map gain ps) i) -ℤ pos (share_by rule billion (map loss ps) i)

abbrev pub sheet_by : ((ℕ → ℕ) → ℕ → ℕ → Bool) → List ℤ → List ℤ
sheet_by rule ps = numbered (λ i p. factor_by rule ps i) ps

-- a rule that puts the members of either side in a strict order
pub record Orders (rule : (ℕ → ℕ) → ℕ → ℕ → Bool) (ps : List ℤ) : Type 0 where
  pub total : (s : Side) → Total (rule (weight_at (map (on s) ps)))
