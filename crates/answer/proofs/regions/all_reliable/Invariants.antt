-- Before a region every one passed stands; the first that does not ends the loop.
use mathlib.Core.Path.{◌≡◌}
use mathlib.Core.Bool.{true, not, ◌||◌}
use mathlib.Core.List.{[]}
use Prim.Native.Nat.{◌≤◌}
use Rattle.integers.specs.Sums.{every}
use Rattle.rules.specs.Bytes.{bit}
use Rattle.kept.specs.Kept.{reliable_of}
use Rattle.answer.specs.Asked.{lent_members}
use Rattle.answer.proofs.regions.all_reliable.Given as goal

abbrev pub invariant-loop-region : goal.invariant-loop-region
invariant-loop-region l =
    (l.region ≤ 5) × (every l.region (λ r. not (bit r l.set) || reliable_of (lent_members l.figures [] []) l.direction r) ≡ true)
