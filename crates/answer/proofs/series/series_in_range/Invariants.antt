-- Before point t every point passed is in range; the first that is not ends the loop.
use mathlib.Core.Path.{◌≡◌}
use mathlib.Core.Bool.{true, ◌&&◌}
use mathlib.Core.List.{[]}
use Prim.Native.Nat.{◌≤◌}
use Rattle.integers.specs.Sums.{every}
use Rattle.rules.specs.declared.Direction.TheVariants.{Raise, Lower}
use Rattle.kept.specs.Range.{measures_fine, sums_fine}
use Rattle.answer.specs.Asked.{lent}
use Rattle.answer.proofs.series.series_in_range.Given as goal

abbrev pub invariant-loop-t : goal.invariant-loop-t
invariant-loop-t l =
    (l.t ≤ 75) × (every l.t (λ i. measures_fine (lent l.measures l.sums [] [] []) i
    && (sums_fine l.most (lent l.measures l.sums [] [] []) Raise i && sums_fine l.most (lent l.measures l.sums [] [] []) Lower i)) ≡ true)
