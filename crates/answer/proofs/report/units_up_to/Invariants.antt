-- The rows walked back over are all passed over, so the units up to the row are as many more than those up to where the walk stands.
use mathlib.Core.Path.{◌≡◌}
use Prim.Native.Nat.{◌+◌, ◌≤◌}
use Rattle.kept.specs.Range.{units_at}
use Rattle.answer.proofs.report.units_up_to.Given as goal

abbrev pub invariant-loop-before : goal.invariant-loop-before
invariant-loop-before l =
    (l.before ≤ l.row) × (l.units + l.before ≡ l.row + 1) × (units_at l.homes l.row + 1 ≡ l.units + units_at l.homes l.before)
