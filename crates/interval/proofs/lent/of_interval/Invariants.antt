-- Before a region every one passed is of the book; the first that is not ends the loop.
use mathlib.Core.Path.{◌≡◌}
use mathlib.Core.Bool.{true}
use Prim.Native.Nat.{◌*◌, ◌≤◌}
use lib.IntN.{pos}
use lib.ListN.{get_or}
use Rattle.integers.specs.Sums.{every}
use Rattle.interval.specs.Lent.{figures_each, is_number}
use Rattle.interval.proofs.lent.of_interval.Given as goal

abbrev pub invariant-loop-region : goal.invariant-loop-region
invariant-loop-region l = (l.region ≤ 5) × (every l.region (λ r. is_number l.interval (get_or l.figures (figures_each * r) (pos 0))) ≡ true)
