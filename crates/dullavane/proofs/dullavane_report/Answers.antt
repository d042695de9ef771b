-- The words hold a tally that can be asked; the row is found and written, or refused; or they hold none and that refusal is told.
use Rattle.std.specs.Prelude.{Result}
use Rattle.rules.specs.declared.Refusal.{Refusal}
use Rattle.rules.specs.declared.ReportRow.{ReportRow}
use mathlib.Core.Path.{refl, ◌∙◌, ap, subst}
use borrow.Author.Tests.{ltb-true}
use Rattle.answer.specs.Report.{lent_report, ReportPromise}
use Rattle.dullavane.specs.Words.{reply_number, said}
use Rattle.dullavane.proofs.WordsLaws.{was_handed}
use Rattle.dullavane.proofs.AskedLaws.{asked_means}
use Rattle.dullavane.proofs.ReportsLaws.{words_refused, row_refused, row_reported}
use Rattle.dullavane.proofs.dullavane_report.Goals as goal

pub overflow_cast-version : goal.overflow_cast-version
overflow_cast-version c =
    record { fits = ltb-true _ _ (asked_means _ _ _ refl (ap reply_number (was_handed _ c.asked.ensures c.in-Ok.is))).narrow_so }

pub returns-in-Ok-found : goal.returns-in-Ok-found
returns-in-Ok-found c =
    let a = c.args in
    λ rest.
    let l = lent_report rest a.figures.now a.numbers.now a.homes.now a.rows.now in
    let found = subst (λ (x : Result ReportRow Refusal). ReportPromise c.in-Ok.before a.row a.version l x) c.in-Ok-found.is (c.report-found.ensures rest) in
    row_reported a.tally.now a.row a.version l a.text.now (was_handed _ c.asked.ensures c.in-Ok.is) found c.write_row.ensures
    c.tell_row_written.ensures

pub returns-in-Err-found : goal.returns-in-Err-found
returns-in-Err-found c =
    let a = c.args in
    λ rest.
    let l = lent_report rest a.figures.now a.numbers.now a.homes.now a.rows.now in
    let found = subst (λ (x : Result ReportRow Refusal). ReportPromise c.in-Ok.before a.row a.version l x) c.in-Err-found.is (c.report-found.ensures rest) in
    row_refused a.tally.now a.row a.version l a.text.now (was_handed _ c.asked.ensures c.in-Ok.is) found
    (c.said.ensures ∙ ap said c.locate.ensures)

pub returns-in-Err : goal.returns-in-Err
returns-in-Err c = λ rest. words_refused _ _ _ _ _ (was_handed _ c.asked.ensures c.in-Err.is) c.refusal_number.ensures
