-- A number or nothing is no larger than the number.
use Rattle.std.proofs.Common.{◌≡◌, ◌+◌, ℤ, ◌-ℤ◌, ap₂, to_z-of_z, w64, SFits, to_z, of_z}
use Rattle.integers.proofs.Bounds.{within_difference, fits_within}
use Rattle.integers.proofs.Casts.{back}
use Rattle.integers.specs.Sums.{when}
use Rattle.units.specs.Groups.{most_deviation}
use Rattle.units.proofs.GroupsLaws.{when_within}
use Rattle.units.proofs.plant.change.Goals as goal
use Rattle.units.proofs.plant.change.Goals.{After-counted-2}

difference : (c : After-counted-2) → let a = c.args in
    to_z w64 (of_z w64 c.counted.result) -ℤ to_z w64 (of_z w64 c.counted-2.result) ≡ when a.after a.new -ℤ when a.before a.old
difference c =
    ap₂ (λ (x y : ℤ). x -ℤ y) (back w64 c.counted.type_inv (rw (to_z-of_z c.ranges.new) at c.counted.ensures))
    (back w64 c.counted-2.type_inv (rw (to_z-of_z c.ranges.old) at c.counted-2.ensures))

fits : (c : After-counted-2) → let a = c.args in SFits w64 (when a.after a.new -ℤ when a.before a.old)
fits c =
    fits_within {k = most_deviation + most_deviation} tt
    (within_difference (when_within c.args.after c.requires.1) (when_within c.args.before c.requires.0))

pub overflow_sub-result : goal.overflow_sub-result
overflow_sub-result c = rw (difference (goal.at.overflow_sub-result c).After-counted-2) (fits (goal.at.overflow_sub-result c).After-counted-2)

pub returns : goal.returns
returns c = rw (difference (goal.at.returns c).After-counted-2) (to_z-of_z (fits (goal.at.returns c).After-counted-2))
