-- Past the last requirement, or right behind it.
use borrow.Author.Tests.{le-ltb, lt-ltb}
use Rattle.lister.proofs.turn.behind.Goals as goal

pub returns-then-tally-requirement : goal.returns-then-tally-requirement
returns-then-tally-requirement c = rw (lt-ltb _ _ c.if-tally-requirement.true)

pub returns : goal.returns
returns c = rw (le-ltb _ _ c.if-tally-requirement.false)
