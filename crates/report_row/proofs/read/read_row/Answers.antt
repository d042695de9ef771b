-- The first column is wrong, or it is read and the second is wrong, or both are read and the rest is read from the third on.
use mathlib.Core.Path.{◌≡◌, sym, ◌∙◌, ap}
use lib.Seq.{length-take-le}
use Rattle.rules.specs.Refusals.{taken}
use Rattle.rules.specs.ReportRead.{before_comma, behind_comma, interval_read, whose_read}
use Rattle.report_row.specs.Promises.{read_answer}
use Rattle.report_row.specs.Reading.{ColumnAt, raise_on}
use Rattle.report_row.proofs.TurnLaws.{interval_refused, whose_refused, two_taken, column_taken, column_refused, row_refused, first_lent, second_lent}
use Rattle.report_row.proofs.read.read_row.Goals as goal
use Rattle.report_row.proofs.read.read_row.Goals.{In_ok-interval, Start}

-- once the interval is read
abbrev start : In_ok-interval → Start
start c = (goal.at.In_ok-interval c).Start

first : (c : In_ok-interval) → let column = c.column_at-date.result in
    ColumnAt (start c).args.row.now 0 column.end column.next
first c = c.column_at-date.ensures

interval_is : (c : In_ok-interval) → interval_read 1 (before_comma (start c).args.row.now) ≡ taken c.in_ok-interval.interval
interval_is c = ap (interval_read 1) (sym (first_lent (first c))) ∙ column_taken 1 _ (c.interval_in.ensures 1) c.in_ok-interval.ensures.value

pub slice_bounds-interval_in-end : goal.slice_bounds-interval_in-end
slice_bounds-interval_in-end c = sym (length-take-le _ _ c.column_at-date.ensures.inside)

pub returns-in_err-interval : goal.returns-in_err-interval
returns-in_err-interval c =
    let column = first_lent c.column_at-date.ensures in
    let e = column_refused 1 _ (c.interval_in.ensures 1) c.in_err-interval.ensures.value in
    record { reply = row_refused _ c.from_residual.ensures.1 (interval_refused _ (ap (interval_read 1) (sym column) ∙ e)) }

pub returns-in_err-whose : goal.returns-in_err-whose
returns-in_err-whose c =
    let i = (goal.at.returns-in_err-whose c).In_ok-interval in
    let e = column_refused 2 _ (c.whose_in.ensures 2) c.in_err-whose.ensures.value in
    let f = ap (whose_read 2) (sym (second_lent (first i) c.column_at-name.ensures)) ∙ e in
    record { reply = row_refused _ c.from_residual-in_err-whose.ensures.1 (whose_refused _ (interval_is i) f) }

pub returns : goal.returns
returns c =
    let i = (goal.at.returns c).In_ok-interval in
    let second = c.column_at-name.ensures in
    let e = column_taken 2 _ (c.whose_in.ensures 2) c.in_ok-whose.ensures.value in
    let f = ap (whose_read 2) (sym (second_lent (first i) second)) ∙ e in
    let on = ap (raise_on _ _) (second.behind.is ∙ ap behind_comma (first i).behind.is) in
    record { reply = c.raise_read.ensures ∙ ap read_answer (on ∙ sym (two_taken _ (interval_is i) f)) }
