-- By the test the estimate is the year, or the one after.
use native.Mathlib.Omega.{arith}
use Rattle.report_row.proofs.Estimates.{year_some, year_before, year_there}
use Rattle.report_row.proofs.calendar.year_of.Goals as goal

pub overflow_sub-result : goal.overflow_sub-result
overflow_sub-result c = year_some c.args.days (omega (arith, c.year_start.ensures, c.if-days-year_start.true))

pub returns-then-days-year_start : goal.returns-then-days-year_start
returns-then-days-year_start c =
    year_before c.args.days c.requires (omega (arith, c.year_start.ensures, c.if-days-year_start.true))

pub returns : goal.returns
returns c =
    year_there c.args.days c.requires (omega (arith, c.year_start.ensures, c.if-days-year_start.false))
