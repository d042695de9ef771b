-- Each branch settles one test.
use borrow.Author.Tests.{le-ltb, lt-ltb, le-leb, lt-leb}
use Rattle.lister.proofs.turn.among.Goals as goal

pub returns-then-tally-requirement : goal.returns-then-tally-requirement
returns-then-tally-requirement c = rw (le-ltb _ _ c.if-tally-requirement.true)

pub returns-then-tally-row : goal.returns-then-tally-row
returns-then-tally-row c = rw (lt-ltb _ _ c.if-tally-requirement.false, lt-leb _ _ c.if-tally-row.true)

pub returns : goal.returns
returns c = rw (lt-ltb _ _ c.if-tally-requirement.false, le-leb _ _ c.if-tally-row.false)
