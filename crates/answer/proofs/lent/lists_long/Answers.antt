-- Each branch settles one list.
use borrow.Author.Tests.{le-leb, lt-leb}
use Rattle.answer.proofs.lent.lists_long.Goals as goal

pub returns-then-measures-lt-SERIES_LENGTH : goal.returns-then-measures-lt-SERIES_LENGTH
returns-then-measures-lt-SERIES_LENGTH c = rw (lt-leb _ _ c.if-measures-lt-SERIES_LENGTH.true)

pub returns-then-sums-lt-SUMS_LENGTH : goal.returns-then-sums-lt-SUMS_LENGTH
returns-then-sums-lt-SUMS_LENGTH c = rw (le-leb _ _ c.if-measures-lt-SERIES_LENGTH.false, lt-leb _ _ c.if-sums-lt-SUMS_LENGTH.true)

pub returns-then-figures-lt-FIGURES_LENGTH : goal.returns-then-figures-lt-FIGURES_LENGTH
returns-then-figures-lt-FIGURES_LENGTH c = rw (le-leb _ _ c.if-measures-lt-SERIES_LENGTH.false, le-leb _ _ c.if-sums-lt-SUMS_LENGTH.false, lt-leb _ _ c.if-figures-lt-FIGURES_LENGTH.true)

pub returns-then-homes-many : goal.returns-then-homes-many
returns-then-homes-many c =
    rw (
      le-leb _ _ c.if-measures-lt-SERIES_LENGTH.false,
      le-leb _ _ c.if-sums-lt-SUMS_LENGTH.false,
      le-leb _ _ c.if-figures-lt-FIGURES_LENGTH.false,
      lt-leb _ _ c.if-homes-many.true,
    )

pub returns : goal.returns
returns c =
    rw (
      le-leb _ _ c.if-measures-lt-SERIES_LENGTH.false,
      le-leb _ _ c.if-sums-lt-SUMS_LENGTH.false,
      le-leb _ _ c.if-figures-lt-FIGURES_LENGTH.false,
      le-leb _ _ c.if-homes-many.false,
    )
