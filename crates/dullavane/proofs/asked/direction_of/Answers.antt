-- 0 is raise, and what is not 0 is lower.
use Rattle.dullavane.proofs.AskedLaws.{lower_of}
use Rattle.dullavane.proofs.asked.direction_of.Goals as goal

pub returns : goal.returns
returns c = lower_of c.args.direction c.if-direction-eq0.false
