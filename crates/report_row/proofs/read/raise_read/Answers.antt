-- A figure that is wrong is the row's first wrong column; one that is read leaves the lower figure and the version.
use mathlib.Core.Path.{sym, ◌∙◌, ap}
use Rattle.report_row.specs.Promises.{read_answer}
use Rattle.report_row.specs.Reading.{lower_on}
use Rattle.report_row.proofs.TurnLaws.{row_refused, raise_refused, raise_taken}
use Rattle.report_row.proofs.read.raise_read.Goals as goal

pub returns-in_err-raise : goal.returns-in_err-raise
returns-in_err-raise c = row_refused _ c.from_residual.ensures.1 (raise_refused _ _ _ c.in_err-raise.ensures)

pub returns : goal.returns
returns c =
    let t = c.in_ok-raise.ensures in
    c.lower_read.ensures ∙ ap read_answer (ap (lower_on _ _ _) t.1.is ∙ sym (raise_taken _ _ _ t.0))
