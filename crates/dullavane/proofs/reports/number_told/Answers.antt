-- A number of 16 bits is itself; a region has its own.
use mathlib.Core.Path.{◌∙◌, ap, sym}
use native.Mathlib.Omega.{arith}
use Prim.Native.Nat.{◌<◌, ◌^◌}
use mir.Syntax.{w64}
use Rattle.integers.proofs.Casts.{back, toZ_small}
use Rattle.dullavane.specs.Reports.{number_told}
use borrow.Author.Rules.{rules}
use Rattle.dullavane.proofs.reports.number_told.Goals as goal
use Rattle.dullavane.proofs.reports.number_told.Goals.{In-Unit}

few : (k : In-Unit) → k.in-Unit.number < 2 ^ 16
few k = search rules

pub returns-in-Unit : goal.returns-in-Unit
returns-in-Unit c =
    toZ_small w64 {n = c.in-Unit.number} (omega (arith, few (goal.at.returns-in-Unit c).In-Unit)) ∙ ap number_told (sym c.in-Unit.is)

pub returns-in-Residual : goal.returns-in-Residual
returns-in-Residual c = back w64 c.region_number.type_inv c.region_number.ensures ∙ ap number_told (sym c.in-Residual.is)
