-- The word, and the number behind it.
use mathlib.Core.Path.{◌∙◌, ap}
use Rattle.rules.specs.Text.{text}
use Rattle.printing.specs.Lines.{with_number}
use Rattle.report_rows.specs.Rows.{with_whose}
use Rattle.report_rows.proofs.words.put_unit.Goals as goal

pub returns : goal.returns
unfolding text with_whose
returns c = c.put_number.ensures ∙ ap (with_number _) c.put_word-to.ensures
