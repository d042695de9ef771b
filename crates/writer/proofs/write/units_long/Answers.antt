-- The rows, then the qualities, then the readings.
use borrow.Author.Tests.{le-leb, lt-leb}
use Rattle.writer.proofs.write.units_long.Goals as goal

pub returns-then-rows-count : goal.returns-then-rows-count
returns-then-rows-count c = simp (lt-leb _ _ c.if-rows-count.true)

pub returns-then-qualities-count : goal.returns-then-qualities-count
returns-then-qualities-count c = simp (le-leb _ _ c.if-rows-count.false, lt-leb _ _ c.if-qualities-count.true)

pub returns : goal.returns
returns c = simp (le-leb _ _ c.if-rows-count.false, le-leb _ _ c.if-qualities-count.false)
