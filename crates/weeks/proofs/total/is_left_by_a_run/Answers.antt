-- Each test that fails is one of the definition; past the first two, the digits settle whether so many can reach the total.
use mathlib.Core.Path.{sym}
use native.Mathlib.Omega.{arith}
use Rattle.weeks.proofs.Runs.{no_run, any_digit, no_digit}
use Rattle.weeks.proofs.total.is_left_by_a_run.Goals as goal

pub returns-then-week : goal.returns-then-week
returns-then-week c =
    sym (no_run c.args.week (λ h. omega (arith, h.counted, c.if-week.true)))

pub returns-then-week-gt-MOST_INTERVALS : goal.returns-then-week-gt-MOST_INTERVALS
returns-then-week-gt-MOST_INTERVALS c =
    sym (no_run c.args.week (λ h. omega (arith, h.short, c.if-week-gt-MOST_INTERVALS.true)))

pub returns-then-week-2 : goal.returns-then-week-2
returns-then-week-2 c =
    any_digit c.args.week c.if-week.false c.if-week-gt-MOST_INTERVALS.false c.if-week-2.true

pub returns : goal.returns
returns c =
    no_digit c.args.week c.if-week.false c.if-week-gt-MOST_INTERVALS.false c.if-week-2.false
