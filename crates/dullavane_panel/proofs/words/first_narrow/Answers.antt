-- The tests follow in their order.
use borrow.Author.Tests.{le-ltb, lt-ltb}
use Rattle.dullavane_panel.specs.Words.{first_narrow}
use Rattle.dullavane_panel.proofs.words.first_narrow.Goals as goal

pub returns-then-number-ge-OVER_16_BITS : goal.returns-then-number-ge-OVER_16_BITS
unfolding first_narrow
returns-then-number-ge-OVER_16_BITS c = rw (le-ltb _ _ c.if-number-ge-OVER_16_BITS.true)

pub returns : goal.returns
unfolding first_narrow
returns c = rw (lt-ltb _ _ c.if-number-ge-OVER_16_BITS.false)
