-- The calendar (02, R-11): Gregorian, from 01/01/2000 on. Days are counted off year by year, and within a year month by month.
use Rattle.std.specs.Prelude.{Bool, not, ◌&&◌, ◌||◌, cond, List, [], ◌∷◌, ℕ, zero, suc, ◌+◌, ◌*◌, ◌-◌, ◌/◌, ◌%◌, eqb, ltb, get_or}
use Rattle.integers.specs.Sums.{sumℕ}

-- a year that 4 divides is a leap year, but not one that 100 divides, unless 400 divides it
abbrev pub leap : ℕ → Bool
leap year = eqb (year % 4) 0 && (not (eqb (year % 100) 0) || eqb (year % 400) 0)

-- the days of the months; months are counted from 0 here, and years from 2000
abbrev pub months : Bool → List ℕ
months leap = 31 ∷ cond leap 29 28 ∷ 31 ∷ 30 ∷ 31 ∷ 30 ∷ 31 ∷ 31 ∷ 30 ∷ 31 ∷ 30 ∷ 31 ∷ []

abbrev pub month_days : Bool → ℕ → ℕ
month_days leap month = get_or (months leap) month 0

abbrev pub first_year : ℕ
first_year = 2_000

abbrev pub year_days : ℕ → ℕ
year_days years = sumℕ 12 (month_days (leap (first_year + years)))

-- ---- where a number falls among pieces of these sizes, one behind the other: in which piece, and how far behind its start; the last takes what is left
pub record Fallen : Type 0 where
  pub piece : ℕ
  pub behind : ℕ

unfoldable pub falls : (ℕ → ℕ) → ℕ → ℕ → ℕ → Fallen
falls size zero piece behind = record { piece = piece; behind = behind }
falls size (suc more) piece behind =
    cond (ltb behind (size piece)) (record { piece = piece; behind = behind }) (falls size more (suc piece) (behind - size piece))

-- ---- the date so many days after 01/01/2000, as people count: month and day from 1. The last year is 9999
pub record Date : Type 0 where
  pub year : ℕ
  pub month : ℕ
  pub day : ℕ

abbrev pub year_of : ℕ → Fallen
year_of days = falls year_days 7_999 0 days

abbrev pub month_of : Fallen → Fallen
month_of y = falls (month_days (leap (first_year + y.piece))) 11 0 y.behind

abbrev pub dated : ℕ → Fallen → Date
dated years m = record { year = first_year + years; month = m.piece + 1; day = m.behind + 1 }

unfoldable pub date_after : ℕ → Date
date_after days = let y = year_of days in dated y.piece (month_of y)

-- and back: the days from 01/01/2000 to a date
unfoldable pub days_to : Date → ℕ
days_to d =
    sumℕ (d.year - first_year) year_days + (sumℕ (d.month - 1) (month_days (leap d.year)) + (d.day - 1))

-- ---- interval n ends 5·n minutes after 01/01/2000 00:00:00; a day has 288
abbrev pub day_intervals : ℕ
day_intervals = 288

abbrev pub hour_intervals : ℕ
hour_intervals = 12

abbrev pub interval_minutes : ℕ
interval_minutes = 5

-- 31/12/9999 23:55:00
abbrev pub last_interval : ℕ
last_interval = 841_518_719

-- a moment, to the minute
pub record Moment : Type 0 where
  pub date : Date
  pub hour : ℕ
  pub minute : ℕ

abbrev pub ends_at : ℕ → Moment
ends_at n =
    record {
      date = date_after (n / day_intervals);
      hour = n % day_intervals / hour_intervals;
      minute = interval_minutes * (n % hour_intervals);
    }

-- and back
abbrev pub interval_to : Moment → ℕ
interval_to m = day_intervals * days_to m.date + (hour_intervals * m.hour + m.minute / interval_minutes)
