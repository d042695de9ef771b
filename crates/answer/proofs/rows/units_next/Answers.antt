-- By the test of the home.
use borrow.Author.Tests.{eq-eqb, ne_eqb}
use Rattle.answer.proofs.rows.units_next.Goals as goal

pub returns-then-home-eq-PASSED_OVER : goal.returns-then-home-eq-PASSED_OVER
returns-then-home-eq-PASSED_OVER c = rw (eq-eqb _ _ c.if-home-eq-PASSED_OVER.true)

pub returns : goal.returns
returns c = rw (ne_eqb _ _ c.if-home-eq-PASSED_OVER.false)
