-- Factors (01, The rules), in billionths.
use Rattle.std.specs.Prelude.{List, map, ℕ, ℤ, pos, ◌-ℤ◌}
use Rattle.integers.specs.Pairs.{gain, loss}
use Rattle.rules.specs.Quantities.{billion}
use Rattle.rules.specs.Members.{Member}
use Rattle.rules.specs.Share.{share_of}

-- the positive performances, and the negative ones, as weights; payment defaults stand in where not live
abbrev pub helpful : List Member → List ℕ
helpful ms = map (λ m. gain m.payment) ms

abbrev pub unhelpful : List Member → List ℕ
unhelpful ms = map (λ m. loss m.payment) ms

-- a total shared over the positive performances, and with a minus sign over the negative ones
abbrev pub both_signs : ℕ → List Member → ℕ → ℤ
both_signs T ms i = pos (share_of T (helpful ms) i) -ℤ pos (share_of T (unhelpful ms) i)

-- 1,000,000,000 is shared so
abbrev pub factor : List Member → ℕ → ℤ
factor ms i = both_signs billion ms i
