-- The interval number first. Before a region the figures of every one passed are within their limits; the first whose are not ends the loop.
use mathlib.Core.Path.{◌≡◌}
use mathlib.Core.Bool.{true}
use mathlib.Core.List.{[]}
use Prim.Native.Nat.{◌≤◌}
use Rattle.integers.specs.Sums.{every}
use Rattle.kept.specs.Range.{region_fine}
use Rattle.answer.specs.Asked.{lent_members}
use Rattle.answer.proofs.figures.figures_in_range.Given as goal

abbrev pub invariant-loop-region : goal.invariant-loop-region
invariant-loop-region l = (l.region ≤ 5) × (every l.region (region_fine (lent_members l.figures [] [])) ≡ true)
