-- By the tests of the remainders.
use borrow.Author.Tests.{eq-eqb, ne_eqb}
use Rattle.report_row.proofs.calendar.is_leap.Goals as goal

pub returns-then-year-ne0 : goal.returns-then-year-ne0
returns-then-year-ne0 c = rw (ne_eqb _ _ c.if-year-ne0.true)

pub returns-then-year-ne0-2 : goal.returns-then-year-ne0-2
returns-then-year-ne0-2 c = rw (eq-eqb _ _ c.if-year-ne0.false, ne_eqb _ _ c.if-year-ne0-2.true)

pub returns : goal.returns
returns c = rw (eq-eqb _ _ c.if-year-ne0.false, eq-eqb _ _ c.if-year-ne0-2.false)
