-- The deviations passed are 0, the others as they were.
use Rattle.std.proofs.Common.{◌≡◌, ◌≤◌, pos}
use Rattle.integers.specs.Fills.{filled}
use Rattle.rules.specs.Quantities.{points}
use Rattle.units.proofs.plant.clear.Given as goal

abbrev pub invariant-loop-t : goal.invariant-loop-t
invariant-loop-t l = (l.t ≤ points) × (l.deviations ≡ filled l.t (λ i. pos 0) l.initial.deviations)
