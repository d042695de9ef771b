-- The three tests in their order.
use mathlib.Core.Path.{◌≡◌, sym, ◌∙◌}
use lib.ListN.{length}
use borrow.Author.Tests.{le-leb}
use Rattle.interval.specs.Lent.{of_interval}
use Rattle.panel.proofs.tested.lent_in_range.Goals as goal
use Rattle.panel.proofs.tested.lent_in_range.Goals.{After-of_interval, Start}

abbrev S : After-of_interval → Start
S c = (goal.at.After-of_interval c).Start

numbered : (c : After-of_interval) → of_interval (S c).args.interval (S c).args.figures.now ≡ c.of_interval.result
numbered c = sym (rw (le-leb 50 (length (S c).args.figures.now) (S c).requires.0) at c.of_interval.ensures)

pub returns-then-not-of_interval : goal.returns-then-not-of_interval
returns-then-not-of_interval c = rw (numbered (goal.at.returns-then-not-of_interval c).After-of_interval ∙ c.if-not-of_interval.true)

pub returns-then-not-reliabilities_in_range : goal.returns-then-not-reliabilities_in_range
returns-then-not-reliabilities_in_range c =
    rw (numbered (goal.at.returns-then-not-reliabilities_in_range c).After-of_interval ∙ c.if-not-of_interval.false, sym c.reliabilities_in_range.ensures ∙ c.if-not-reliabilities_in_range.true)

pub returns : goal.returns
returns c =
    rw (numbered (goal.at.returns c).After-of_interval ∙ c.if-not-of_interval.false, sym c.reliabilities_in_range.ensures ∙ c.if-not-reliabilities_in_range.false)
    c.homes_in_range.ensures
