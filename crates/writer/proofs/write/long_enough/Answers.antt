-- The buffer, then the lists of each body.
use mathlib.Core.Path.{sym, ◌∙◌}
use borrow.Author.Tests.{le-leb, lt-leb}
use Rattle.writer.proofs.write.long_enough.Goals as goal

pub returns-then-room-book_size : goal.returns-then-room-book_size
returns-then-room-book_size c = rw (lt-leb _ _ (rw c.book_size.ensures at c.if-room-book_size.true))

pub returns-then-not-regions_long : goal.returns-then-not-regions_long
returns-then-not-regions_long c =
    rw (le-leb _ _ (rw c.book_size.ensures at c.if-room-book_size.false), sym c.regions_long.ensures ∙ c.if-not-regions_long.true)

pub returns-then-not-units_long : goal.returns-then-not-units_long
returns-then-not-units_long c =
    rw (
      le-leb _ _ (rw c.book_size.ensures at c.if-room-book_size.false),
      sym c.regions_long.ensures ∙ c.if-not-regions_long.false,
      sym c.units_long.ensures ∙ c.if-not-units_long.true,
    )

pub returns : goal.returns
returns c =
    rw (
      le-leb _ _ (rw c.book_size.ensures at c.if-room-book_size.false),
      sym c.regions_long.ensures ∙ c.if-not-regions_long.false,
      sym c.units_long.ensures ∙ c.if-not-units_long.false,
    )
