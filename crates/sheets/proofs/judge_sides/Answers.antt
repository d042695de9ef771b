-- The tests of the two sides, in the definition's order.
use mathlib.Core.Path.{sym, ◌∙◌}
use Rattle.sheets.proofs.judge_sides.Goals as goal

pub returns-then-not-is_whole : goal.returns-then-not-is_whole
returns-then-not-is_whole c = rw (sym c.is_whole.ensures ∙ c.if-not-is_whole.true)

pub returns-then-not-is_whole-2 : goal.returns-then-not-is_whole-2
returns-then-not-is_whole-2 c =
    rw (sym c.is_whole.ensures ∙ c.if-not-is_whole.false, sym c.is_whole-2.ensures ∙ c.if-not-is_whole-2.true)

pub returns : goal.returns
returns c =
    rw (sym c.is_whole.ensures ∙ c.if-not-is_whole.false, sym c.is_whole-2.ensures ∙ c.if-not-is_whole-2.false)
