-- Each branch settles one list.
use borrow.Author.Tests.{le-leb, lt-leb}
use Rattle.answer.proofs.report.report_lists_long.Goals as goal

pub returns-then-figures-lt-FIGURES_LENGTH : goal.returns-then-figures-lt-FIGURES_LENGTH
returns-then-figures-lt-FIGURES_LENGTH c = rw (lt-leb _ _ c.if-figures-lt-FIGURES_LENGTH.true)

pub returns-then-numbers-units : goal.returns-then-numbers-units
returns-then-numbers-units c = rw (le-leb _ _ c.if-figures-lt-FIGURES_LENGTH.false, lt-leb _ _ c.if-numbers-units.true)

pub returns-then-homes-units : goal.returns-then-homes-units
returns-then-homes-units c = rw (le-leb _ _ c.if-figures-lt-FIGURES_LENGTH.false, le-leb _ _ c.if-numbers-units.false, lt-leb _ _ c.if-homes-units.true)

pub returns : goal.returns
returns c = rw (le-leb _ _ c.if-figures-lt-FIGURES_LENGTH.false, le-leb _ _ c.if-numbers-units.false, le-leb _ _ c.if-homes-units.false)
