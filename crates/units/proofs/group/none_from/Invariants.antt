-- Before a place no unit passed is of the group; the first that is ends the loop.
use Rattle.std.proofs.Common.{◌≡◌, ◌≤◌, true}
use Rattle.units.specs.Groups.{new_group}
use Rattle.units.proofs.group.none_from.Given as goal

abbrev pub invariant-loop-at : goal.invariant-loop-at
invariant-loop-at l = (l.at ≤ l.row) × (new_group l.group l.at l.groups ≡ true)
