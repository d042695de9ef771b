-- The word, and the name behind it.
use mathlib.Core.Path.{◌∙◌, ap}
use Rattle.rules.specs.Text.{text}
use Rattle.printing.specs.Lines.{with_word}
use Rattle.report_rows.specs.Rows.{with_whose}
use Rattle.report_rows.proofs.words.put_residual.Goals as goal

pub returns : goal.returns
unfolding text with_whose
returns c = c.put_region.ensures ∙ ap (with_word _) c.put_word-to.ensures
