-- A whole roster's week (02, R-7): the members' weeks one after another, n intervals each, and their bits likewise, each member's from a byte of its
-- own; per member, count and default.
use Rattle.std.specs.Prelude.{Bool, ◌&&◌, List, ℕ, zero, suc, ◌*◌, leb, ℤ, length, get_or, drop}
use Rattle.integers.specs.Sums.{every}
use Rattle.integers.specs.Fills.{filled}
use Rattle.rules.specs.declared.Refusal.TheVariants.{TooShort, WrongCount, AverageTooLow, WrongWeek}
use Rattle.rules.specs.declared.WeekDefault.{WeekDefault}
use Rattle.rules.specs.declared.Whose.{Whose}
use Rattle.rules.specs.declared.Whose.TheVariants as whose
use Rattle.rules.specs.Refusals.{Reply, taken, unless}
use Rattle.rules.specs.Week.{Interval, interval_at, bytes_for, whose_fine, week_fine, average_fine, live_total, live_count, default_of}

-- who a member is, as a number: 0 a residual, 1 a unit, more a group of so many
abbrev pub whose_of : ℕ → Whose
whose_of zero = whose.Residual
whose_of (suc zero) = whose.Unit
whose_of (suc (suc k)) = whose.Group (suc (suc k))

-- the members, their weeks in the lent lists, and what each week comes to
module _ (n : ℕ) (ms : List ℕ) (ps : List ℤ) (bits : List ℕ) where
  abbrev pub members : ℕ
  members = length ms

  abbrev pub member : ℕ → Whose
  member j = whose_of (get_or ms j 0)

  abbrev pub member_interval : ℕ → ℕ → Interval
  member_interval j = interval_at (drop (j * n) ps) (drop (j * bytes_for n) bits)

  abbrev pub member_total : ℕ → ℕ
  member_total j = live_total n (member_interval j)

  abbrev pub member_count : ℕ → ℕ
  member_count j = live_count n (member_interval j)

  abbrev pub member_default : ℕ → WeekDefault
  member_default j = default_of (member_total j) (member_count j)

  -- are the lists long enough, with room for so many counts and defaults
  abbrev pub long_enough : ℕ → ℕ → Bool
  long_enough counts defaults =
      leb (members * n) (length ps) && (leb (members * bytes_for n) (length bits) && (leb members counts && leb members defaults))

  -- each test for all members before the next
  unfoldable pub roster_reply : ℕ → ℕ → Reply (Unit {0})
  roster_reply counts defaults =
      unless (long_enough counts defaults) TooShort
      (unless (every members (λ j. whose_fine (member j))) WrongCount
      (unless (every members (λ j. week_fine (member j) n (member_interval j))) WrongWeek
      (unless (every members (λ j. average_fine (member j) (member_total j) (member_count j))) AverageTooLow
      (taken tt))))

  -- what is written: numbers past the members' stay
  abbrev pub counts_after : List ℕ → List ℕ
  counts_after counts = filled members member_count counts

  abbrev pub defaults_after : List ℤ → List ℤ
  defaults_after defaults = filled members (λ j. (member_default j).default) defaults
