-- Each by its place.
use mathlib.Core.Path.{ap, sym}
use Rattle.dullavane.specs.Reports.{residual_number}
use Rattle.dullavane.proofs.reports.residual_number.Goals as goal

pub returns-in-Unit : goal.returns-in-Unit
returns-in-Unit c = ap residual_number (sym c.in-Unit.is)

pub returns-in-Residual : goal.returns-in-Residual
returns-in-Residual c = ap residual_number (sym c.in-Residual.is)
