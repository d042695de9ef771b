-- The residual's payment and standing.
use mathlib.Core.Path.{◌∙◌, ap}
use borrow.Author.Rules.{sfits_of}
use mir.Facts.{to_z-of_z}
use mir.Syntax.{w64}
use Rattle.rules.specs.Report.{type_of}
use Rattle.answer.specs.declared.Member.{Member}
use Rattle.answer.proofs.ReportLaws.{figure_same}
use Rattle.answer.proofs.report.residual_figure.Goals as goal

pub returns : goal.returns
returns c =
    figure_same (to_z-of_z {w = w64} (sfits_of c.struct_told-1.given.1.0.1) ∙ ap (λ (x : Member). x.payment) c.region_member-residual.ensures)
    (c.figure_type.ensures ∙ ap (λ (x : Member). type_of x.standing) c.region_member-residual.ensures)
