-- By the first test that tells.
use borrow.Author.Tests.{le-leb, lt-leb}
use Rattle.answer.proofs.residual.some_good_or_none.Goals as goal

pub returns-then-good-ge1 : goal.returns-then-good-ge1
returns-then-good-ge1 c = rw (le-leb _ _ c.if-good-ge1.true)

pub returns : goal.returns
returns c = rw (lt-leb _ _ c.if-good-ge1.false)
