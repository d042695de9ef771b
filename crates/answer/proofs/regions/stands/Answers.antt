-- A region outside the set stands; any other by its figure.
use mathlib.Core.Path.{sym, ◌∙◌}
use Rattle.answer.proofs.regions.stands.Goals as goal

pub returns-then-not-covers : goal.returns-then-not-covers
returns-then-not-covers c = rw (sym c.covers.ensures ∙ c.if-not-covers.true)

pub returns : goal.returns
returns c = rw (sym c.covers.ensures ∙ c.if-not-covers.false) c.reliable.ensures
