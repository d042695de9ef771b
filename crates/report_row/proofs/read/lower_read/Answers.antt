-- A figure that is wrong is the row's first wrong column; one that is read leaves the version.
use mathlib.Core.Path.{sym, ◌∙◌, ap}
use Rattle.report_row.specs.Promises.{read_answer}
use Rattle.report_row.specs.Reading.{version_on}
use Rattle.report_row.proofs.TurnLaws.{row_refused, lower_refused, lower_taken, rest_lent}
use Rattle.report_row.proofs.read.lower_read.Goals as goal

pub returns-in_err-lower : goal.returns-in_err-lower
returns-in_err-lower c = row_refused _ c.from_residual.ensures.1 (lower_refused _ _ _ _ c.in_err-lower.ensures)

pub returns : goal.returns
returns c =
    let t = c.in_ok-lower.ensures in
    c.version_read.ensures ∙ ap read_answer (ap (version_on _ _ _ _) (rest_lent t.1) ∙ sym (lower_taken _ _ _ _ t.0))
