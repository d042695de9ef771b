-- By the two tests, from the law of the months' sum.
use mathlib.Core.Path.{ap}
use native.Mathlib.Omega.{arith}
use borrow.Author.Tests.{lt-ltb, le-ltb}
use Rattle.integers.specs.Sums.{one}
use Rattle.report_row.proofs.CalendarLaws.{months_sum}
use Rattle.report_row.proofs.calendar.month_start.Goals as goal

pub returns-then-months-lt2 : goal.returns-then-months-lt2
returns-then-months-lt2 c =
    omega (arith, rw (lt-ltb _ _ c.if-months-lt2.true) at (months_sum c.args.in_leap c.args.months c.requires))

pub returns-then-in_leap : goal.returns-then-in_leap
returns-then-in_leap c =
    omega (arith, rw (le-ltb _ _ c.if-months-lt2.false) at (months_sum c.args.in_leap c.args.months c.requires), ap one c.if-in_leap.true)

pub returns : goal.returns
returns c =
    omega (arith, rw (le-ltb _ _ c.if-months-lt2.false) at (months_sum c.args.in_leap c.args.months c.requires), ap one c.if-in_leap.false)
