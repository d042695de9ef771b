-- Each branch settles one number, in their order.
use borrow.Author.Tests.{le-ltb, lt-ltb}
use Rattle.dullavane.proofs.asked.narrow_asked.Goals as goal

pub returns-then-row-ge-OVER_16_BITS : goal.returns-then-row-ge-OVER_16_BITS
returns-then-row-ge-OVER_16_BITS c = rw (le-ltb _ _ c.if-row-ge-OVER_16_BITS.true)

pub returns-then-direction-ge2 : goal.returns-then-direction-ge2
returns-then-direction-ge2 c = rw (lt-ltb _ _ c.if-row-ge-OVER_16_BITS.false, le-ltb _ _ c.if-direction-ge2.true)

pub returns : goal.returns
returns c = rw (lt-ltb _ _ c.if-row-ge-OVER_16_BITS.false, lt-ltb _ _ c.if-direction-ge2.false)
