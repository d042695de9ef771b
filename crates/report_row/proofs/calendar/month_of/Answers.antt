-- By the test the estimate is the month, or the one before.
use native.Mathlib.Omega.{arith}
use Rattle.report_row.proofs.Estimates.{month_small, month_there, month_behind}
use Rattle.report_row.proofs.calendar.month_of.Goals as goal

pub month_start-requires : goal.month_start-requires
month_start-requires c = omega (arith, month_small c.args.in_leap c.args.day c.requires)

pub returns-then-day-month_start : goal.returns-then-day-month_start
returns-then-day-month_start c =
    month_there c.args.in_leap c.args.day c.requires (omega (arith, c.month_start.ensures, c.if-day-month_start.true))

pub returns : goal.returns
returns c =
    month_behind c.args.in_leap c.args.day c.requires (omega (arith, c.month_start.ensures, c.if-day-month_start.false))
