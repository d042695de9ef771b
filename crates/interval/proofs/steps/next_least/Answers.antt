-- One test tells whether the unit is the last.
use borrow.Author.Tests.{eq-eqb, ne_eqb}
use Rattle.interval.proofs.steps.next_least.Goals as goal

pub returns-then-tally : goal.returns-then-tally
returns-then-tally c = rw (eq-eqb _ _ c.if-tally.true)

pub returns : goal.returns
returns c = rw (ne_eqb _ _ c.if-tally.false)
