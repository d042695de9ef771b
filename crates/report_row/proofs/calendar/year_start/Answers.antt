-- The days of the years before, by the law of their sum.
use native.Mathlib.Omega.{arith}
use Rattle.report_row.proofs.CalendarLaws.{years_sum}
use Rattle.report_row.proofs.calendar.year_start.Goals as goal

pub returns : goal.returns
returns c = omega (arith, years_sum c.args.years)
