-- Before each point the trajectory is the ramp where the points passed have left it, and the deviations and the region's sums of the points passed are
-- those of the plant with the unit.
use Rattle.std.proofs.Common.{◌≡◌, ℕ, ◌≤◌, Bool, ◌&&◌, List, ℤ, ◌-ℤ◌}
use Rattle.integers.specs.Fills.{filled}
use Rattle.rules.specs.Quantities.{points}
use Rattle.book.specs.declared.UnitFields.{UnitFields}
use Rattle.book.specs.Unit.{reading_at}
use Rattle.interval.specs.Lent.{put_from, sums_start, sums_each, part_of}
use Rattle.units.specs.Points.{held, ramp, so_far}
use Rattle.units.specs.Groups.{with_unit}
use Rattle.units.proofs.plant.move_plant.Given as goal

-- what is added to the j-th sum
abbrev pub more : UnitFields → Bool → (ℕ → ℤ) → List ℤ → ℕ → ℤ
more f before reading ds j = part_of (before && f.good) (with_unit f reading ds) j -ℤ part_of before (held ds) j

abbrev pub invariant-loop-t : goal.invariant-loop-t
invariant-loop-t l =
    (l.t ≤ points)
    × (l.trajectory ≡ ramp l.fields l.t)
    × (l.deviations ≡ filled l.t (with_unit l.fields (reading_at l.part) l.initial.deviations) l.initial.deviations)
    × (l.sums ≡ put_from (sums_start l.fields.region) sums_each
    (so_far (sums_start l.fields.region) (more l.fields l.before (reading_at l.part) l.initial.deviations) l.initial.sums l.t) l.initial.sums)
