-- A residual reaches as 512 units do, and every other number is that of the units.
use mathlib.Core.Path.{ap}
use Rattle.rules.specs.declared.Whose.TheVariants.{Group}
use Rattle.dullavane.proofs.WeeklyLaws.{units_in}
use Rattle.dullavane.proofs.weekly.as_group.Goals as goal

pub returns-then-number-eq0 : goal.returns-then-number-eq0
returns-then-number-eq0 c = rw c.if-number-eq0.true

pub returns : goal.returns
returns c =
    ap Group (units_in c.args.number c.if-number-eq0.false)
