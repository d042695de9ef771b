-- Not whole, empty, or refused at the first record.
use mathlib.Core.Path.{sym, ◌∙◌}
use borrow.Author.Tests.{eq-eqb, ne_eqb}
use Rattle.dullavane.proofs.runs.unheld_told.Goals as goal

pub returns-then-not-is_whole : goal.returns-then-not-is_whole
returns-then-not-is_whole c = rw (sym c.is_whole.ensures ∙ c.if-not-is_whole.true) c.refusal_number.ensures

pub returns-then-records-eq0 : goal.returns-then-records-eq0
returns-then-records-eq0 c = rw (sym c.is_whole.ensures ∙ c.if-not-is_whole.false, eq-eqb _ _ c.if-records-eq0.true)

pub returns : goal.returns
returns c = rw (sym c.is_whole.ensures ∙ c.if-not-is_whole.false, ne_eqb _ _ c.if-records-eq0.false)
