-- Each branch settles one number, in their order.
use borrow.Author.Tests.{le-ltb, lt-ltb}
use Rattle.dullavane.specs.Reports.{row_narrow}
use Rattle.dullavane.proofs.reports.row_narrow.Goals as goal

pub returns-then-residual-ge2 : goal.returns-then-residual-ge2
unfolding row_narrow
returns-then-residual-ge2 c = rw (le-ltb _ _ c.if-residual-ge2.true)

pub returns-then-raise_type-ge2 : goal.returns-then-raise_type-ge2
unfolding row_narrow
returns-then-raise_type-ge2 c = rw (lt-ltb _ _ c.if-residual-ge2.false, le-ltb _ _ c.if-raise_type-ge2.true)

pub returns-then-lower_type-ge2 : goal.returns-then-lower_type-ge2
unfolding row_narrow
returns-then-lower_type-ge2 c = rw (lt-ltb _ _ c.if-residual-ge2.false, lt-ltb _ _ c.if-raise_type-ge2.false, le-ltb _ _ c.if-lower_type-ge2.true)

pub returns-then-version-ge-OVER_16_BITS : goal.returns-then-version-ge-OVER_16_BITS
unfolding row_narrow
returns-then-version-ge-OVER_16_BITS c =
    rw (lt-ltb _ _ c.if-residual-ge2.false, lt-ltb _ _ c.if-raise_type-ge2.false, lt-ltb _ _ c.if-lower_type-ge2.false, le-ltb _ _ c.if-version-ge-OVER_16_BITS.true)

pub returns : goal.returns
unfolding row_narrow
returns c =
    rw (lt-ltb _ _ c.if-residual-ge2.false, lt-ltb _ _ c.if-raise_type-ge2.false, lt-ltb _ _ c.if-lower_type-ge2.false, lt-ltb _ _ c.if-version-ge-OVER_16_BITS.false) c.number_narrow.ensures
