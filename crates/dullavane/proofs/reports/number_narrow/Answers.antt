-- 0 is a unit, and what is not 0 is a region.
use Rattle.dullavane.proofs.ReportsLaws.{region_narrow}
use Rattle.dullavane.proofs.reports.number_narrow.Goals as goal

pub returns-then-residual-eq0 : goal.returns-then-residual-eq0
returns-then-residual-eq0 c = rw c.if-residual-eq0.true

pub returns : goal.returns
returns c = region_narrow c.args.residual c.args.number c.if-residual-eq0.false
