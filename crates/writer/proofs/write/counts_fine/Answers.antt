-- The limit of the units, then the two of the requirements.
use borrow.Author.Tests.{le-leb, lt-leb}
use Rattle.writer.proofs.write.counts_fine.Goals as goal

pub returns-then-units-gt-UNIT_LIMIT : goal.returns-then-units-gt-UNIT_LIMIT
returns-then-units-gt-UNIT_LIMIT c = simp (lt-leb _ _ c.if-units-gt-UNIT_LIMIT.true)

pub returns-then-requirements-lt1 : goal.returns-then-requirements-lt1
returns-then-requirements-lt1 c = simp (le-leb _ _ c.if-units-gt-UNIT_LIMIT.false, lt-leb _ _ c.if-requirements-lt1.true)

pub returns : goal.returns
returns c = simp (le-leb _ _ c.if-units-gt-UNIT_LIMIT.false, le-leb _ _ c.if-requirements-lt1.false)
