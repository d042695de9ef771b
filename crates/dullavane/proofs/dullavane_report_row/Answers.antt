-- A number over its field is told first; else the row is written, or its refusal told.
use mathlib.Core.Path.{◌≡◌, sym, ◌∙◌}
use mathlib.Core.Bool.{true}
use mir.Facts.{to_z-of_z}
use Rattle.dullavane.specs.Reports.{row_narrow}
use Rattle.dullavane.proofs.ReportsLaws.{Narrow, narrow_means, narrow_refused, row_was_told, row_made}
use Rattle.dullavane.proofs.dullavane_report_row.Goals as goal
use Rattle.dullavane.proofs.dullavane_report_row.Goals.{After-row_narrow, Else-not-row_narrow, Start}

abbrev start : After-row_narrow → Start
start c = (goal.at.After-row_narrow c).Start

so : (c : Else-not-row_narrow) → let a = (start (goal.at.Else-not-row_narrow c).After-row_narrow).args in row_narrow a.residual a.number a.raise_type a.lower_type a.version ≡ true
so c = sym c.row_narrow.ensures ∙ c.if-not-row_narrow.false

means : (c : Else-not-row_narrow) → let a = (start (goal.at.Else-not-row_narrow c).After-row_narrow).args in Narrow a.residual a.number a.raise_type a.lower_type a.version
means c = narrow_means _ _ _ _ _ (so c)

pub returns-then-not-row_narrow : goal.returns-then-not-row_narrow
returns-then-not-row_narrow c =
    narrow_refused (sym c.row_narrow.ensures ∙ c.if-not-row_narrow.true) c.refusal_number.ensures

pub whose_in-requires : goal.whose_in-requires
whose_in-requires c = (means (goal.at.whose_in-requires c).Else-not-row_narrow).number_few

pub overflow_cast-row : goal.overflow_cast-row
overflow_cast-row c = record { fits = (means (goal.at.overflow_cast-row c).Else-not-row_narrow).version_few }

pub returns : goal.returns
returns c =
    let a = (start (goal.at.returns c).After-row_narrow).args in
    let f = (start (goal.at.returns c).After-row_narrow).ranges in
    row_was_told (so (goal.at.returns c).Else-not-row_narrow)
    (row_made a.interval a.residual a.number a.raise_type a.lower_type a.version a.raise a.lower
    c.whose_in.ensures (to_z-of_z f.raise) c.type_in.ensures (to_z-of_z f.lower)
    c.type_in-2.ensures c.write_row.ensures) c.tell_row_written.ensures
