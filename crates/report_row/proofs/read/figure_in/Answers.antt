-- The performance is wrong, or it is read and the type is wrong, or both are read and the next column stands behind them.
use mathlib.Core.Path.{◌≡◌, sym, ◌∙◌, ap}
use Prim.Native.Nat.{◌+◌}
use Rattle.std.proofs.lemmas.Result.{err_from_is_err_and}
use lib.IntN.{ℤ}
use lib.ListN.{drop}
use mir.Syntax.{w64}
use mir.Val.{SFits}
use mir.Facts.{to_z-of_z}
use Rattle.integers.proofs.Bounds.{fits_within}
use Rattle.rules.specs.Refusals.{taken}
use Rattle.rules.specs.ReportRead.{before_comma, performance_read, type_read, billionths_most}
use Rattle.report_row.specs.Reading.{ColumnAt}
use Rattle.report_row.proofs.ColumnLaws.{performance_reads}
use Rattle.report_row.proofs.TurnLaws.{performance_wrong, type_refused, figure_taken, column_taken, column_refused, second_lent, second_behind}
use Rattle.report_row.proofs.read.figure_in.Goals as goal
use Rattle.report_row.proofs.read.figure_in.Goals.{In_ok-performance, Start}

-- once the performance is read
abbrev start : In_ok-performance → Start
start c = (goal.at.In_ok-performance c).Start

abbrev size : In_ok-performance → ℤ
size c = c.in_ok-performance.performance

first : (c : In_ok-performance) → let column = c.column_at-number.result in
    ColumnAt (start c).args.row.now (start c).args.from column.end column.next
first c = c.column_at-number.ensures

performance_is : (c : In_ok-performance) →
    performance_read (start c).args.k (before_comma (drop (start c).args.from (start c).args.row.now)) ≡ taken (size c)
performance_is c =
    let k = (start c).args.k in
    ap (performance_read k) (sym (first c).is) ∙ column_taken k _ (c.performance_in.ensures k) c.in_ok-performance.ensures.value

fits : (c : In_ok-performance) → SFits w64 (size c)
fits c = fits_within {k = billionths_most} tt (record { size = (performance_reads.made _ _ (size c) (performance_is c)).0 })

pub returns-in_err-performance : goal.returns-in_err-performance
returns-in_err-performance c =
    let e = column_refused c.args.k _ (c.performance_in.ensures c.args.k) c.in_err-performance.ensures.value in
    let p = err_from_is_err_and c.from_residual.result c.from_residual.ensures.1 in
    rw (p.1, p.2) (performance_wrong _ _ (ap (performance_read _) (sym c.column_at-number.ensures.is) ∙ e))

pub returns-in_err-typed : goal.returns-in_err-typed
returns-in_err-typed c =
    let i = (goal.at.returns-in_err-typed c).In_ok-performance in
    let k = (start i).args.k in
    let e = column_refused (k + 1) _ (c.type_in.ensures (k + 1)) c.in_err-typed.ensures.value in
    let p = err_from_is_err_and c.from_residual-in_err-typed.result c.from_residual-in_err-typed.ensures.1 in
    rw (p.1, p.2) (type_refused _ _ (performance_is i) (ap (type_read _) (sym (second_lent (first i) c.column_at-word.ensures)) ∙ e))

pub returns : goal.returns
returns c =
    let i = (goal.at.returns c).In_ok-performance in
    let k = (start i).args.k in
    let second = c.column_at-word.ensures in
    let e = column_taken (k + 1) _ (c.type_in.ensures (k + 1)) c.in_ok-typed.ensures.value in
    rw (to_z-of_z (fits i)) (figure_taken _ _ (performance_is i) (ap (type_read _) (sym (second_lent (first i) second)) ∙ e), second_behind (first i) second)
