-- The last column is wrong, or it is the version of the row.
use mathlib.Core.Path.{sym, ap}
use Rattle.report_row.specs.Promises.{read_answer}
use Rattle.report_row.proofs.TurnLaws.{column_taken, column_refused, row_refused, version_refused, version_taken}
use Rattle.report_row.proofs.read.version_read.Goals as goal

pub returns-in_err-version : goal.returns-in_err-version
returns-in_err-version c =
    let e = column_refused 7 _ (c.version_in.ensures 7) c.in_err-version.ensures.value in
    row_refused _ c.from_residual.ensures.1 (version_refused _ _ _ _ _ e)

pub returns : goal.returns
returns c =
    let e = column_taken 7 _ (c.version_in.ensures 7) c.in_ok-version.ensures.value in
    sym (ap read_answer (version_taken _ _ _ _ _ e))
