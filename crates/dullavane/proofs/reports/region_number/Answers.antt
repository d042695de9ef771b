-- Each by its place.
use mathlib.Core.Path.{ap, sym}
use Rattle.dullavane.specs.Reports.{region_number}
use Rattle.dullavane.proofs.reports.region_number.Goals as goal

pub returns-in-Qld1 : goal.returns-in-Qld1
returns-in-Qld1 c = ap region_number (sym c.in-Qld1.is)

pub returns-in-Nsw1 : goal.returns-in-Nsw1
returns-in-Nsw1 c = ap region_number (sym c.in-Nsw1.is)

pub returns-in-Vic1 : goal.returns-in-Vic1
returns-in-Vic1 c = ap region_number (sym c.in-Vic1.is)

pub returns-in-Sa1 : goal.returns-in-Sa1
returns-in-Sa1 c = ap region_number (sym c.in-Sa1.is)

pub returns-in-Tas1 : goal.returns-in-Tas1
returns-in-Tas1 c = ap region_number (sym c.in-Tas1.is)
