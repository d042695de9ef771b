-- By the cases.
use Rattle.answer.proofs.residual.worse.Goals as goal

pub returns-in-UnreliableRegion : goal.returns-in-UnreliableRegion
returns-in-UnreliableRegion c = rw (c.in-Default.is, c.in-UnreliableRegion.is)

pub returns-in-BadUnit : goal.returns-in-BadUnit
returns-in-BadUnit c = rw (c.in-Default.is, c.in-BadUnit.is)

pub returns-in-Live-next : goal.returns-in-Live-next
returns-in-Live-next c = rw (c.in-Default.is, c.in-NoGoodUnit.is, c.in-Live-next.is)
