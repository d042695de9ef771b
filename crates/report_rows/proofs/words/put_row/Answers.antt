-- Word behind word.
use mathlib.Core.Path.{◌∙◌, ap}
use Rattle.printing.specs.Lines.{with_number}
use Rattle.report_rows.specs.Rows.{with_whose, with_figure, with_row}
use Rattle.report_rows.proofs.words.put_row.Goals as goal

pub returns : goal.returns
unfolding with_row
returns c =
    c.put_number.ensures
    ∙ ap (with_number _) (c.put_figure-at-2.ensures
    ∙ ap (with_figure _) (c.put_figure-at.ensures
    ∙ ap (with_figure _) (c.put_whose-at.ensures
    ∙ ap (with_whose _) c.put_number-at.ensures)))
