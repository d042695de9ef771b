-- Before default i every one passed is in range; the first that is not ends the loop.
use mathlib.Core.Path.{◌≡◌}
use mathlib.Core.Bool.{true}
use Prim.Native.Nat.{◌+◌, ◌≤◌}
use Rattle.integers.specs.Sums.{every}
use Rattle.interval.specs.Ranges.{fine_from}
use Rattle.interval.proofs.lent.six_in_range.Given as goal

abbrev pub invariant-loop-i : goal.invariant-loop-i
invariant-loop-i l = (l.i ≤ 6) × (every l.i (λ j. fine_from l.least l.defaults (l.start + j)) ≡ true)
