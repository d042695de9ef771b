-- 0 is a unit, and what is not 0 is a region.
use mathlib.Core.Path.{◌∙◌, ap}
use Rattle.rules.specs.declared.Reported.TheVariants.{Residual}
use Rattle.dullavane.proofs.ReportsLaws.{residual_of}
use Rattle.dullavane.proofs.reports.whose_in.Goals as goal

pub returns-then-residual-eq0 : goal.returns-then-residual-eq0
returns-then-residual-eq0 c = rw c.if-residual-eq0.true

pub returns : goal.returns
returns c =
    ap Residual c.region_name.ensures ∙ residual_of c.args.residual c.args.number c.if-residual-eq0.false
