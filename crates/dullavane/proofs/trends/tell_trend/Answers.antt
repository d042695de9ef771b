-- The record and the count are put; refused, nothing is.
use mathlib.Core.Path.{refl, ◌∙◌, ap}
use Rattle.dullavane.specs.Words.{said}
use Rattle.dullavane.proofs.trends.tell_trend.Goals as goal

pub returns-in-Drawn : goal.returns-in-Drawn
returns-in-Drawn c =
    rw c.in-Drawn.is (refl, c.put_strip.ensures, c.put_drawn.ensures)

pub returns-in-Bad : goal.returns-in-Bad
returns-in-Bad c =
    rw c.in-Bad.is (refl, c.put_strip-in-Bad.ensures, c.put_drawn-in-Bad.ensures)

pub returns-in-Refused : goal.returns-in-Refused
returns-in-Refused c = rw c.in-Refused.is (c.said.ensures ∙ ap said c.locate.ensures, refl, refl)
