-- The days of the years before, of the months before, and of the month, as the calls say; they fit by the bounds of the sums.
use mathlib.Core.Path.{◌≡◌, ◌∙◌, ap}
use mathlib.Core.Bool.{Bool}
use Prim.Native.Nat.{◌-◌}
use native.Mathlib.Omega.{arith}
use Rattle.integers.specs.Sums.{sumℕ}
use Rattle.rules.specs.Calendar.{leap, first_year, month_days, days_to}
use Rattle.report_row.proofs.Estimates.{years_bounds, months_bounds}
use Rattle.report_row.proofs.calendar.days_to.Goals as goal
use Rattle.report_row.proofs.calendar.days_to.Goals.{After-month_start-before, Start}

abbrev S : After-month_start-before → Start
S c = (goal.at.After-month_start-before c).Start

passed :
    (c : After-month_start-before) → let d = (S c).args.date in
    c.month_start-before.result ≡ sumℕ (d.month - 1) (month_days (leap d.year))
passed c = c.month_start-before.ensures ∙ ap (λ (t : Bool). sumℕ ((S c).args.date.month - 1) (month_days t)) c.is_leap.ensures

pub overflow_add-result : goal.overflow_add-result
overflow_add-result c =
    let d = (S (goal.at.overflow_add-result c).After-month_start-before).args.date in
    omega (arith, passed (goal.at.overflow_add-result c).After-month_start-before, (months_bounds (leap d.year) (d.month - 1) (omega (arith, (S (goal.at.overflow_add-result c).After-month_start-before).requires.to_december))).0, (S (goal.at.overflow_add-result c).After-month_start-before).requires.to_december, (S (goal.at.overflow_add-result c).After-month_start-before).requires.to_last)

pub overflow_add-result-2 : goal.overflow_add-result-2
overflow_add-result-2 c =
    let d = (S (goal.at.overflow_add-result-2 c).After-month_start-before).args.date in
    omega (
      arith,
      c.year_start.ensures,
      (years_bounds (d.year - first_year)).0,
      (S (goal.at.overflow_add-result-2 c).After-month_start-before).requires.to_9999,
      passed (goal.at.overflow_add-result-2 c).After-month_start-before,
      (months_bounds (leap d.year) (d.month - 1) (omega (arith, (S (goal.at.overflow_add-result-2 c).After-month_start-before).requires.to_december))).0,
      (S (goal.at.overflow_add-result-2 c).After-month_start-before).requires.to_december,
      (S (goal.at.overflow_add-result-2 c).After-month_start-before).requires.to_last,
    )

pub returns : goal.returns
unfolding days_to
returns c = rw (c.year_start.ensures, passed (goal.at.returns c).After-month_start-before)
