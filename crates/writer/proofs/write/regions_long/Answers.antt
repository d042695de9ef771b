-- The rows, then the qualities, then the frequencies.
use borrow.Author.Tests.{le-leb, lt-leb}
use Rattle.writer.proofs.write.regions_long.Goals as goal

pub returns-then-rows : goal.returns-then-rows
returns-then-rows c = simp (lt-leb _ _ c.if-rows.true)

pub returns-then-qualities : goal.returns-then-qualities
returns-then-qualities c = simp (le-leb _ _ c.if-rows.false, lt-leb _ _ c.if-qualities.true)

pub returns : goal.returns
returns c = simp (le-leb _ _ c.if-rows.false, le-leb _ _ c.if-qualities.false)
