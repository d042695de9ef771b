-- Which lent sums are in range, as the loop that tests them goes. It is the definition of `kept`, Range.
use Rattle.std.specs.Prelude.{Bool, List, ℕ, ◌+◌, leb, ℤ, pos, nat_abs, get_or}
use Rattle.integers.specs.Sums.{sumℕ}
use Rattle.rules.specs.Quantities.{regions}
use Rattle.interval.specs.Lent.{sums_start}

-- ---- the sizes of the five regions' sums at a place, which is that of a side of zero at a point
abbrev pub sums_at_most : ℕ → List ℤ → ℕ → Bool
sums_at_most most sums at = leb (sumℕ regions (λ r. nat_abs (get_or sums (sums_start r + at) (pos 0)))) most
