-- Each branch settles one column.
use borrow.Author.Tests.{le-ltb, lt-ltb}
use Rattle.answer.proofs.lent.columns_long.Goals as goal

pub returns-then-performances-many : goal.returns-then-performances-many
returns-then-performances-many c = rw (le-ltb _ _ c.if-performances-many.true)

pub returns-then-factors-many : goal.returns-then-factors-many
returns-then-factors-many c = rw (lt-ltb _ _ c.if-performances-many.false, le-ltb _ _ c.if-factors-many.true)

pub returns-then-payments-many : goal.returns-then-payments-many
returns-then-payments-many c = rw (lt-ltb _ _ c.if-performances-many.false, lt-ltb _ _ c.if-factors-many.false, le-ltb _ _ c.if-payments-many.true)

pub returns-then-used-many : goal.returns-then-used-many
returns-then-used-many c =
    rw (
      lt-ltb _ _ c.if-performances-many.false,
      lt-ltb _ _ c.if-factors-many.false,
      lt-ltb _ _ c.if-payments-many.false,
      le-ltb _ _ c.if-used-many.true,
    )

pub returns : goal.returns
returns c =
    rw (
      lt-ltb _ _ c.if-performances-many.false,
      lt-ltb _ _ c.if-factors-many.false,
      lt-ltb _ _ c.if-payments-many.false,
      lt-ltb _ _ c.if-used-many.false,
    )
