-- Each by its place.
use mathlib.Core.Path.{ap, sym}
use Rattle.dullavane.specs.Reports.{type_number}
use Rattle.dullavane.proofs.reports.type_number.Goals as goal

pub returns-in-Calculated : goal.returns-in-Calculated
returns-in-Calculated c = ap type_number (sym c.in-Calculated.is)

pub returns-in-Default : goal.returns-in-Default
returns-in-Default c = ap type_number (sym c.in-Default.is)
