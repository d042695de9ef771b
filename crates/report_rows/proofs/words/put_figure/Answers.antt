-- The number, and its type behind it.
use mathlib.Core.Path.{◌≡◌, ◌∙◌, ap}
use mir.Syntax.{w64}
use mir.Val.{to_z, of_z, SFits}
use mir.Facts.{to_z-of_z}
use Rattle.printing.specs.Lines.{with_word}
use Rattle.report_rows.specs.Rows.{with_figure}
use borrow.Author.Rules.{rules}
use Rattle.report_rows.proofs.words.put_figure.Goals as goal

pub returns : goal.returns
unfolding with_figure
returns c =
    let n = c.args.figure.performance in
    let fits : SFits w64 n = search rules in
    let same : to_z w64 (of_z w64 n) ≡ n = to_z-of_z fits in
    c.put_type.ensures ∙ ap (with_word _) (rw same at c.put_integer-to.ensures)
