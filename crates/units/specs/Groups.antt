-- Whether a unit may stand in its group, by its fields and what is kept of the units before, and what a unit leaves of its plant.
use Rattle.rules.specs.declared.Refusal.{Refusal}
use Rattle.std.specs.Prelude.{◌≡◌, ℕ, ◌+◌, ◌-◌, ◌*◌, ◌/◌, ◌<◌, ◌≤◌, Bool, true, cond, not, ◌&&◌, ◌||◌, List, length, ℤ, pos, ◌+ℤ◌, ◌-ℤ◌, ◌==◌, nat_le, slice_index, slice_index_or, slice_set, Result, Ok, Err}
use Rattle.integers.specs.Bounds.{Within}
use Rattle.integers.specs.Sums.{every, when}
use Rattle.integers.specs.Fills.{filled}
use Rattle.rules.specs.declared.Direction.TheVariants.{Raise, Lower}
use Rattle.rules.specs.declared.Refusal.TheVariants.{WrongGroup}
use Rattle.rules.specs.Quantities.{points, regions, most_units, power_limit, deviation_limit}
use Rattle.rules.specs.Groups.{same_group}
use Rattle.rules.specs.Book.{Unit}
use Rattle.rules.specs.Deviation.{good}
use Rattle.rules.specs.Performance.{wanted}
use Rattle.book.specs.Defaults.{none_in_three}
use Rattle.book.specs.declared.UnitFields.{UnitFields}
use Rattle.book.specs.Unit.{unit_of, reading_at}
use Rattle.interval.specs.Lent.{
  Lent,
  put_from,
  sums_length,
  sums_each,
  sums_start,
  part_of,
  moved,
  row_each,
  named_region,
  named_group,
  series_in_range,
  plant_in_range,
  good_before,
  deviation_before,
  number_with,
  good_with,
  deviation_with,
  row_with,
  homes_with,
  deviations_with,
}
use Rattle.interval.specs.Promises.{weighed}
use Rattle.units.specs.Points.{held, deviated, at, most_sum, added_to, FirstWithin, PointsBounds}

-- what the call reads of its record's region and of the group that the unit joins is in range
abbrev pub lent_in_range : List ℕ → ℕ → Lent → Bool
lent_in_range part taken l = series_in_range (named_region part) taken l && plant_in_range (named_group part) taken l

-- ---- 16
-- a unit of this group joins that of the unit before
abbrev pub follows : ℕ → ℕ → List ℕ → Bool
follows group row groups = nat_le 1 row && same_group (slice_index groups (row - 1)) group

-- four units from a place on are not of this group, and no unit before a row is
abbrev pub not_of : ℕ → List ℕ → ℕ → Bool
not_of group groups i = not (slice_index groups i == group)

abbrev pub none_of_four : ℕ → ℕ → List ℕ → Bool
none_of_four group from groups = every 4 (λ i. not_of group groups (from + i))

abbrev pub new_group : ℕ → ℕ → List ℕ → Bool
new_group group row groups = every row (not_of group groups)

-- a unit may have this group: none, that of the unit before, or a new one
abbrev pub free_group : ℕ → ℕ → List ℕ → Bool
free_group group row groups = group == 0 || (follows group row groups || new_group group row groups)

abbrev pub fits_group : UnitFields → Bool → ℕ → List ℕ → List ℕ → Bool
fits_group f free row homes groups =
    cond (follows f.group row groups)
    (slice_index homes (row - 1) / 2 == f.region && (none_in_three f.raise && none_in_three f.lower))
    free

-- what was read, where it may stand in its group
abbrev pub grouped : Bool → ℕ → List ℕ → List ℕ → Result UnitFields Refusal → Result UnitFields Refusal
grouped free row homes groups (Ok f) = cond (fits_group f free row homes groups) (Ok f) (Err WrongGroup)
grouped free row homes groups (Err r) = Err r

-- ---- the plant of a unit, in one pass over its points: its deviations are added up, and its region's sums moved to what they come to
abbrev pub with_unit : UnitFields → (ℕ → ℤ) → List ℤ → ℕ → ℤ
with_unit f reading ds t = held ds t +ℤ deviated f reading t

-- no deviation of a plant is larger, with one unit more
abbrev pub most_deviation : ℕ
most_deviation = most_sum + deviation_limit

-- what is added to a sum whose part was `old`, where that was in it, and is `new`, where that is to be
abbrev pub change : Bool → ℤ → Bool → ℤ → ℤ
change before old after new = when after new -ℤ when before old

pub record MoveBounds (place : ℕ) (old new : ℤ) (xs : List ℤ) : Type 0 where
  pub before : Within most_sum old
  pub after : Within most_deviation new
  pub long : place + points < length xs
  pub above : Within most_sum (slice_index_or xs place (pos 0))
  pub below : Within most_sum (slice_index_or xs (place + points) (pos 0))

abbrev pub with_change : Bool → Bool → ℕ → ℤ → ℤ → List ℤ → List ℤ
with_change before after place old new xs =
    added_to (added_to xs place (change before (wanted Raise old) after (wanted Raise new))) (place + points)
    (change before (wanted Lower old) after (wanted Lower new))

pub record PlantBounds (f : UnitFields) (part : List ℕ) (ss ds : List ℤ) : Type 0 where
  pub part_long : 372 ≤ length part
  pub region : f.region < regions
  pub start : Within power_limit f.start
  pub end : Within power_limit f.end
  pub readings : FirstWithin points power_limit (reading_at part)
  pub sums_long : sums_length ≤ length ss
  pub sums : FirstWithin sums_each most_sum (at (sums_start f.region) ss)
  pub deviations_long : points ≤ length ds
  pub deviations : FirstWithin points most_sum (held ds)

pub record PlantMoved (before : Bool) (f : UnitFields) (reading : ℕ → ℤ) (ss ds ss' ds' : List ℤ) : Type 0 where
  pub sums : ss' ≡ moved f.region (part_of before (held ds)) (part_of (before && f.good) (with_unit f reading ds)) ss
  pub deviations : ds' ≡ filled points (with_unit f reading ds) ds

-- ---- all that a unit leaves, in a row, where the call has tested what it reads
pub record UnitReady (row : ℕ) (f : UnitFields) (part : List ℕ) (l : Lent) : Type 0 where
  pub unit : Unit
  pub fields : f ≡ unit_of unit (good unit)
  pub points : PointsBounds f (reading_at part) l.measures l.sums
  pub part_long : 372 ≤ length part
  pub reading : (i : ℕ) → i < 75 → reading_at part i ≡ slice_index_or unit.reading i (pos 0)
  pub few : row < most_units
  pub numbers_long : row < length l.numbers
  pub homes_long : row < length l.homes
  pub rows_long : row_each * (row + 1) ≤ length l.rows
  pub groups_long : row < length l.groups
  pub deviations_long : 75 ≤ length l.deviations
  pub plant : plant_in_range unit.group row l ≡ true

pub record UnitWritten (row : ℕ) (u : Unit) (l l' : Lent) : Type 0 where
  pub sums : l'.sums ≡ moved u.region (part_of (good_before row u l) (deviation_before row u l)) (part_of (good_with row u l) (deviation_with row u l))
      l.sums
  pub numbers : l'.numbers ≡ slice_set l.numbers row (number_with row u l)
  pub homes : l'.homes ≡ homes_with row u l
  pub rows : l'.rows ≡ put_from (row_each * row) row_each (row_with row u l (weighed l u)) l.rows
  pub groups : l'.groups ≡ slice_set l.groups row u.group
  pub deviations : l'.deviations ≡ deviations_with row u l
