-- A column that is one of the two words is that type, and one that is neither is wrong.
use mathlib.Core.Path.{sym, ◌∙◌}
use Rattle.rules.specs.Text.{text}
use Rattle.rules.specs.declared.FigureType.TheVariants.{Calculated, Default}
use Rattle.report_row.proofs.ReadLaws.{type_right, type_wrong}
use Rattle.report_row.proofs.columns_in.type_in.Goals as goal

pub returns-then-same_bytes : goal.returns-then-same_bytes
unfolding text
returns-then-same_bytes c = type_right _ Calculated (sym c.same_bytes.ensures ∙ c.if-same_bytes.true)

pub returns-then-same_bytes-2 : goal.returns-then-same_bytes-2
unfolding text
returns-then-same_bytes-2 c = type_right _ Default (sym c.same_bytes-2.ensures ∙ c.if-same_bytes-2.true)

pub returns : goal.returns
unfolding text
returns c =
    type_wrong _ (sym c.same_bytes.ensures ∙ c.if-same_bytes.false) (sym c.same_bytes-2.ensures ∙ c.if-same_bytes-2.false)
