-- What each call says is where the day falls: the year, the rest of days in it, its months, and the rest in the month.
use mathlib.Core.Path.{◌≡◌, ◌∙◌, ap, ap₂}
use mathlib.Core.Bool.{Bool}
use Prim.Native.Nat.{ℕ, ◌+◌, ◌-◌, ◌<◌}
use native.Mathlib.Omega.{arith}
use Rattle.integers.specs.Sums.{sumℕ}
use Rattle.rules.specs.Calendar.{Fallen, leap, month_days, first_year, year_days, year_of, month_of, date_after}
use Rattle.report_row.specs.Dates.{month_in}
use Rattle.report_row.proofs.CalendarLaws.{year_among, month_among, year_inside, month_long}
use Rattle.report_row.proofs.calendar.date_after.Goals as goal
use Rattle.report_row.proofs.calendar.date_after.Goals.{After-is_leap-in_leap, After-month_of-months, After-month_start, After-year_start, Start}

abbrev Y : Start → Fallen
Y s = year_of s.args.days

abbrev M : Start → Fallen
M s = month_of (Y s)

abbrev Leap : Start → Bool
Leap s = leap (first_year + (Y s).piece)

small : (s : Start) → (Y s).behind < year_days (Y s).piece
small s = year_inside s.args.days s.requires

in_leap : (c : After-is_leap-in_leap) → c.is_leap-in_leap.result ≡ Leap (goal.at.After-is_leap-in_leap c).Start
in_leap c = c.is_leap-in_leap.ensures ∙ ap (λ (k : ℕ). leap (first_year + k)) c.year_of-years.ensures

started : (c : After-year_start) → c.year_start.result ≡ sumℕ (Y (goal.at.After-year_start c).Start).piece year_days
started c = c.year_start.ensures ∙ ap (λ (k : ℕ). sumℕ k year_days) c.year_of-years.ensures

in_year : (c : After-year_start) → c.args.days - c.year_start.result ≡ (Y (goal.at.After-year_start c).Start).behind
in_year c = omega (arith, started c, (year_among c.args.days).told)

months : (c : After-month_of-months) → c.month_of-months.result ≡ (M (goal.at.After-month_of-months c).Start).piece
months c = c.month_of-months.ensures ∙ ap₂ (λ (t : Bool) (n : ℕ). (month_in t n).piece) (in_leap (goal.at.After-month_of-months c).After-is_leap-in_leap) (in_year (goal.at.After-month_of-months c).After-year_start)

passed :
    (c : After-month_start) → c.month_start.result ≡ sumℕ (M (goal.at.After-month_start c).Start).piece (month_days (Leap (goal.at.After-month_start c).Start))
passed c = c.month_start.ensures ∙ ap₂ (λ (m : ℕ) (t : Bool). sumℕ m (month_days t)) (months (goal.at.After-month_start c).After-month_of-months) (in_leap (goal.at.After-month_start c).After-is_leap-in_leap)

in_month :
    (c : After-month_start) → c.args.days - c.year_start.result - c.month_start.result ≡ (M (goal.at.After-month_start c).Start).behind
in_month c =
    omega (arith, in_year (goal.at.After-month_start c).After-year_start, passed c, (month_among (Y (goal.at.After-month_start c).Start)).told)

pub overflow_add-year : goal.overflow_add-year
overflow_add-year c = omega (arith, c.year_of-years.ensures, (year_among c.args.days).to)

pub year_start-requires : goal.year_start-requires
year_start-requires c = omega (arith, c.year_of-years.ensures, (year_among c.args.days).to)

pub overflow_sub-in_year : goal.overflow_sub-in_year
overflow_sub-in_year c = omega (arith, started (goal.at.overflow_sub-in_year c).After-year_start, (year_among c.args.days).told)

pub month_of-months-requires : goal.month_of-months-requires
month_of-months-requires c = rw (in_year (goal.at.month_of-months-requires c).After-year_start, in_leap (goal.at.month_of-months-requires c).After-is_leap-in_leap) (small (goal.at.month_of-months-requires c).Start)

pub month_start-requires : goal.month_start-requires
month_start-requires c = omega (arith, months (goal.at.month_start-requires c).After-month_of-months, (month_among (Y (goal.at.month_start-requires c).Start)).to)

pub overflow_sub-in_month : goal.overflow_sub-in_month
overflow_sub-in_month c = omega (arith, in_year (goal.at.overflow_sub-in_month c).After-year_start, passed (goal.at.overflow_sub-in_month c).After-month_start, (month_among (Y (goal.at.overflow_sub-in_month c).Start)).told)

pub overflow_cast-result : goal.overflow_cast-result
overflow_cast-result c = omega (arith, c.year_of-years.ensures, (year_among c.args.days).to)

pub overflow_add-result : goal.overflow_add-result
overflow_add-result c = omega (arith, months (goal.at.overflow_add-result c).After-month_of-months, (month_among (Y (goal.at.overflow_add-result c).Start)).to)

pub overflow_cast-result-2 : goal.overflow_cast-result-2
overflow_cast-result-2 c = omega (arith, months (goal.at.overflow_cast-result-2 c).After-month_of-months, (month_among (Y (goal.at.overflow_cast-result-2 c).Start)).to)

pub overflow_cast-result-3 : goal.overflow_cast-result-3
overflow_cast-result-3 c =
    let m = month_among (Y (goal.at.overflow_cast-result-3 c).Start) in
    omega (arith, in_month (goal.at.overflow_cast-result-3 c).After-month_start, m.inside (small (goal.at.overflow_cast-result-3 c).Start), (month_long (Leap (goal.at.overflow_cast-result-3 c).Start) (M (goal.at.overflow_cast-result-3 c).Start).piece (omega (arith, m.to))).1)

pub returns : goal.returns
unfolding date_after
returns c = rw (in_month (goal.at.returns c).After-month_start, months (goal.at.returns c).After-month_of-months, c.year_of-years.ensures)
