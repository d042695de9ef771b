-- A member as the code makes it (01, Members; Performance): where the direction's numbers stand, and the number of a field.
use Rattle.std.specs.Prelude.{Bool, true, false, ℕ, ◌+◌, ◌*◌, ◌≤◌, ◌<◌, ℤ, length, get_or}
use Rattle.rules.specs.declared.Direction.{Direction}
use Rattle.rules.specs.declared.Direction.TheVariants.{Raise, Lower}
use Rattle.rules.specs.declared.Standing.{Standing}
use Rattle.rules.specs.Quantities.{most_units}
use Rattle.rules.specs.Standings.{live_or}
use Rattle.rules.specs.Members.{Member as Sharer}
use Rattle.interval.specs.Lent.{Lent, figures_length, passed_over, row_each}
use Rattle.answer.specs.declared.Field.{Field}
use Rattle.answer.specs.declared.Field.TheVariants.{Payment, Used, Unused}
use Rattle.answer.specs.declared.Member.{Member}

-- ---- by the direction: where reliability stands among a region's figures, a performance in a plant's row, and where three defaults start among six
abbrev pub reliable_at : Direction → ℕ
reliable_at Raise = 2
reliable_at Lower = 3

abbrev pub performance_at : Direction → ℕ
performance_at Raise = 0
performance_at Lower = 1

abbrev pub defaults_at : Direction → ℕ
defaults_at Raise = 0
defaults_at Lower = 3

-- ---- a member: the performance of a live one, else the defaults stand in
abbrev pub made : Standing → ℤ → ℤ → ℤ → ℤ → Member
made s performance payment used unused = record { standing = s; payment = live_or s performance payment; used = live_or s performance used; unused = unused }

-- the number of a field, and the same of the rules' member
abbrev pub picked : Field → Member → ℤ
picked Payment m = m.payment
picked Used m = m.used
picked Unused m = m.unused

abbrev pub field_of : Field → Sharer → ℤ
field_of Payment m = m.payment
field_of Used m = m.used
field_of Unused m = m.unused

-- ---- a number that a share goes by: the performance of a live plant, but for the unused default
abbrev pub field_at : Field → ℕ
field_at Payment = 0
field_at Used = 1
field_at Unused = 2

abbrev pub performed : Field → Bool
performed Payment = true
performed Used = true
performed Unused = false

-- what is read of a row and its region is there
pub record RowThere (i : ℕ) (l : Lent) : Type 0 where
  pub few : i < most_units
  pub figures : figures_length ≤ length l.figures
  pub homes : i < length l.homes
  pub rows : row_each * i + row_each ≤ length l.rows
  pub home : get_or l.homes i 0 ≤ passed_over
