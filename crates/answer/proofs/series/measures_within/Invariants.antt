-- Before a region the FM of every one passed is within the limit; the first that is not ends the loop.
use mathlib.Core.Path.{◌≡◌}
use mathlib.Core.Bool.{true}
use Prim.Native.Nat.{ℕ, ◌+◌, ◌≤◌}
use mathlib.Core.List.{List}
use lib.IntN.{ℤ, pos}
use lib.ListN.{get_or}
use Rattle.integers.specs.Sums.{every}
use Rattle.rules.specs.Quantities.{measure_limit}
use Rattle.rules.specs.Fields.{sized}
use Rattle.interval.specs.Lent.{series_start, measure_held}
use Rattle.answer.proofs.series.measures_within.Given as goal

abbrev pub there : List ℤ → ℕ → ℕ → ℤ
there xs t r = get_or xs (series_start r + t) (pos 0)

abbrev pub invariant-loop-region : goal.invariant-loop-region
invariant-loop-region l = (l.region ≤ 5) × (every l.region (λ r. sized measure_limit (measure_held (there l.measures l.t r))) ≡ true)
