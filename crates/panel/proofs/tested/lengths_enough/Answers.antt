-- Each branch settles one list, in the order of the definition.
use borrow.Author.Tests.{le-leb, lt-leb, lt-ltb, le-ltb}
use Rattle.panel.proofs.tested.lengths_enough.Goals as goal

pub returns-then-figures-lt-FIGURES_LENGTH : goal.returns-then-figures-lt-FIGURES_LENGTH
returns-then-figures-lt-FIGURES_LENGTH c = rw (lt-leb _ _ c.if-figures-lt-FIGURES_LENGTH.true)

pub returns-then-numbers-units : goal.returns-then-numbers-units
returns-then-numbers-units c = rw (le-leb _ _ c.if-figures-lt-FIGURES_LENGTH.false, lt-leb _ _ c.if-numbers-units.true)

pub returns-then-homes-units : goal.returns-then-homes-units
returns-then-homes-units c = rw (le-leb _ _ c.if-figures-lt-FIGURES_LENGTH.false, le-leb _ _ c.if-numbers-units.false, lt-leb _ _ c.if-homes-units.true)

pub returns-then-payments-units : goal.returns-then-payments-units
returns-then-payments-units c =
    rw (le-leb _ _ c.if-figures-lt-FIGURES_LENGTH.false, le-leb _ _ c.if-numbers-units.false, le-leb _ _ c.if-homes-units.false, le-ltb _ _ c.if-payments-units.true)

pub returns-then-used-units : goal.returns-then-used-units
returns-then-used-units c =
    rw (le-leb _ _ c.if-figures-lt-FIGURES_LENGTH.false, le-leb _ _ c.if-numbers-units.false, le-leb _ _ c.if-homes-units.false, lt-ltb _ _ c.if-payments-units.false, le-ltb _ _ c.if-used-units.true)

pub returns-then-unused-units : goal.returns-then-unused-units
returns-then-unused-units c =
    rw (
      le-leb _ _ c.if-figures-lt-FIGURES_LENGTH.false,
      le-leb _ _ c.if-numbers-units.false,
      le-leb _ _ c.if-homes-units.false,
      lt-ltb _ _ c.if-payments-units.false,
      lt-ltb _ _ c.if-used-units.false,
      le-ltb _ _ c.if-unused-units.true,
    )

pub returns : goal.returns
returns c =
    rw (
      le-leb _ _ c.if-figures-lt-FIGURES_LENGTH.false,
      le-leb _ _ c.if-numbers-units.false,
      le-leb _ _ c.if-homes-units.false,
      lt-ltb _ _ c.if-payments-units.false,
      lt-ltb _ _ c.if-used-units.false,
      lt-ltb _ _ c.if-unused-units.false,
    )
