-- Before each sixteen no unit passed is of the group; four of which one is end the loop.
use Rattle.std.proofs.Common.{◌≡◌, ◌-◌, ◌≤◌, true}
use Rattle.units.specs.Groups.{new_group}
use Rattle.units.proofs.group.is_new.Given as goal

abbrev pub invariant-loop-at : goal.invariant-loop-at
invariant-loop-at l = (l.at ≤ l.row) × (new_group l.group l.at l.groups ≡ true)

abbrev pub decreases-loop-at : goal.decreases-loop-at
decreases-loop-at l = l.row - l.at
