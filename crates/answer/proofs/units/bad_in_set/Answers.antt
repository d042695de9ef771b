-- The set first; then whether the unit is good.
use mathlib.Core.Path.{sym, ◌∙◌, ap}
use mathlib.Core.Bool.{not}
use Rattle.answer.proofs.units.bad_in_set.Goals as goal

pub returns-then-not-in_set : goal.returns-then-not-in_set
returns-then-not-in_set c = rw (sym c.in_set.ensures ∙ c.if-not-in_set.true)

pub returns : goal.returns
returns c = rw (sym c.in_set.ensures ∙ c.if-not-in_set.false) (ap not c.is_good.ensures)
