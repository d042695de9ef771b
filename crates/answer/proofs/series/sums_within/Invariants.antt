-- What is left of the limit is what the sizes passed have not used; a size that is more than what is left makes their sum too large.
use mathlib.Core.Path.{◌≡◌}
use Prim.Native.Nat.{ℕ, ◌+◌, ◌≤◌}
use mathlib.Core.List.{List}
use lib.IntN.{ℤ, pos, nat_abs}
use lib.ListN.{get_or}
use Rattle.integers.specs.Sums.{sumℕ}
use Rattle.interval.specs.Lent.{sums_start}
use Rattle.answer.proofs.series.sums_within.Given as goal

abbrev pub there : List ℤ → ℕ → ℕ → ℤ
there xs at r = get_or xs (sums_start r + at) (pos 0)

abbrev pub invariant-loop-region : goal.invariant-loop-region
invariant-loop-region l = (l.region ≤ 5) × (l.left + sumℕ l.region (λ r. nat_abs (there l.sums l.at r)) ≡ l.most)
