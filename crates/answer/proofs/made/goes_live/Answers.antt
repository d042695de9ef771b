-- By the field, then the region, then the unit.
use mathlib.Core.Path.{sym, ◌∙◌}
use Rattle.answer.proofs.made.goes_live.Goals as goal

pub returns-then-not-by_performance : goal.returns-then-not-by_performance
returns-then-not-by_performance c = rw (sym c.by_performance.ensures ∙ c.if-not-by_performance.true)

pub returns-then-not-reliable : goal.returns-then-not-reliable
returns-then-not-reliable c =
    rw (sym c.by_performance.ensures ∙ c.if-not-by_performance.false, sym c.reliable.ensures ∙ c.if-not-reliable.true)

pub returns : goal.returns
returns c =
    rw (sym c.by_performance.ensures ∙ c.if-not-by_performance.false, sym c.reliable.ensures ∙ c.if-not-reliable.false)
    c.is_good.ensures
