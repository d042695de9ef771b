-- By the length: a part with a byte 2 names the region there, any other none.
use Rattle.std.proofs.Common.{length, le-ltb, lt-ltb}
use Rattle.units.proofs.lent.named_region.Goals as goal

pub returns-then-part-le2 : goal.returns-then-part-le2
returns-then-part-le2 c = rw (le-ltb 2 (length c.args.part.now) c.if-part-le2.true)

pub returns : goal.returns
returns c = rw (lt-ltb 2 (length c.args.part.now) c.if-part-le2.false) c.u8_at.ensures.reply
