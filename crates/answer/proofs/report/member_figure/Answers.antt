-- What the calls ensure.
use mathlib.Core.Path.{◌∙◌, ap}
use borrow.Author.Rules.{sfits_of}
use mir.Facts.{to_z-of_z}
use mir.Syntax.{w64}
use Rattle.rules.specs.Report.{type_of}
use Rattle.answer.specs.Asked.{lent_members}
use Rattle.answer.proofs.RosterLaws.{standing_of_row}
use Rattle.answer.proofs.ReportLaws.{figure_same}
use Rattle.answer.proofs.report.member_figure.Goals as goal

pub returns : goal.returns
returns c =
    let a = c.args in
    figure_same (to_z-of_z {w = w64} (sfits_of c.row_value-performance.type_inv) ∙ c.row_value-performance.ensures)
    (c.figure_type.ensures ∙ ap type_of
    (c.row_standing-standing.ensures ∙ standing_of_row (lent_members a.figures.now a.homes.now a.rows.now) a.direction a.row))
