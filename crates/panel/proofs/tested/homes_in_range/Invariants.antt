-- Before a row every home passed is in range; the first that is not ends the loop.
use mathlib.Core.Path.{◌≡◌}
use mathlib.Core.Bool.{true}
use Prim.Native.Nat.{◌≤◌}
use lib.Dec.{leb}
use lib.ListN.{get_or}
use Rattle.integers.specs.Sums.{every}
use Rattle.panel.proofs.tested.homes_in_range.Given as goal

abbrev pub invariant-loop-row : goal.invariant-loop-row
invariant-loop-row l = (l.row ≤ l.units) × (every l.row (λ i. leb (get_or l.homes i 0) 10) ≡ true)
