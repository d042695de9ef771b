-- Word behind word.
use mathlib.Core.Path.{◌∙◌, ap, ap₂}
use Rattle.rules.specs.Text.{text}
use Rattle.printing.specs.Lines.{with_number}
use Rattle.report_rows.specs.Rows.{with_refusal}
use Rattle.report_rows.proofs.words.put_refusal.Goals as goal

pub returns : goal.returns
unfolding text with_refusal
returns c =
    c.put_number.ensures
    ∙ ap₂ with_number c.refusal_point.ensures (c.put_number-at-2.ensures
    ∙ ap (with_number _) (c.put_number-at.ensures
    ∙ ap₂ with_number c.refusal_number.ensures c.put_word-at.ensures))
