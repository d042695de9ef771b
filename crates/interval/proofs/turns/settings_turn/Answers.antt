-- The range first, then the turn.
use mathlib.Core.Path.{sym, ◌∙◌}
use Rattle.interval.proofs.turns.settings_turn.Goals as goal

pub returns-then-not-in_range : goal.returns-then-not-in_range
returns-then-not-in_range c = simp (sym c.in_range.ensures ∙ c.if-not-in_range.true)

pub returns : goal.returns
returns c = simp (sym c.in_range.ensures ∙ c.if-not-in_range.false)
