-- Each branch settles one list, in their order.
use mathlib.Core.Path.{sym, ◌∙◌}
use Rattle.answer.proofs.series.point_within.Goals as goal

pub returns-then-not-measures_within : goal.returns-then-not-measures_within
returns-then-not-measures_within c = rw (sym c.measures_within.ensures ∙ c.if-not-measures_within.true)

pub returns-then-not-sums_within : goal.returns-then-not-sums_within
returns-then-not-sums_within c =
    rw (sym c.measures_within.ensures ∙ c.if-not-measures_within.false, sym c.sums_within.ensures ∙ c.if-not-sums_within.true)

pub returns : goal.returns
returns c =
    rw (sym c.measures_within.ensures ∙ c.if-not-measures_within.false, sym c.sums_within.ensures ∙ c.if-not-sums_within.false)
    c.sums_within-2.ensures
