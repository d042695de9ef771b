-- By the length: a part with bytes 70 and 71 names the group there, any other none.
use Rattle.std.proofs.Common.{length, le-ltb, lt-ltb}
use Rattle.units.proofs.lent.named_group.Goals as goal

pub returns-then-part-le71 : goal.returns-then-part-le71
returns-then-part-le71 c = rw (le-ltb 71 (length c.args.part.now) c.if-part-le71.true)

pub returns : goal.returns
returns c = rw (lt-ltb 71 (length c.args.part.now) c.if-part-le71.false) c.u16_at.ensures.reply
