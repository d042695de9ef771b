-- Before a region every one passed is in range; the first that is not ends the loop.
use mathlib.Core.Path.{◌≡◌}
use mathlib.Core.Bool.{true}
use Prim.Native.Nat.{◌≤◌}
use Rattle.integers.specs.Sums.{every}
use Rattle.panel.specs.Press.{reliability_fine}
use Rattle.panel.proofs.tested.reliabilities_in_range.Given as goal

abbrev pub invariant-loop-region : goal.invariant-loop-region
invariant-loop-region l = (l.region ≤ 5) × (every l.region (reliability_fine l.figures) ≡ true)
