-- By the test of the number.
use borrow.Author.Tests.{lt-ltb, le-ltb}
use Rattle.answer.proofs.report.region_place.Goals as goal

pub returns-then-past : goal.returns-then-past
returns-then-past c = rw (le-ltb _ _ c.if-past.true)

pub returns : goal.returns
returns c = rw (lt-ltb _ _ c.if-past.false)
