-- Before a turn the members of the rows before are counted, and are not past the one that is asked for.
use mathlib.Core.Path.{refl}
use Prim.Native.Nat.{◌+◌}
use native.Mathlib.Omega.{arith}
use Rattle.answer.specs.Report.{MembersBetween}
use Rattle.answer.proofs.ReportLaws.{between_none, between_joined, between_few}
use Rattle.answer.proofs.report.rows_before.Goals as goal
use Rattle.answer.proofs.report.rows_before.Goals.{After-members_together}

more : (c : After-members_together) → MembersBetween c.args.homes.now 0 (c.loop-at.at + 64) (c.loop-at.members + c.members_together.result)
more c = between_joined c.loop-at.invariant.1 c.members_together.ensures

pub loop-at-init : goal.loop-at-init
loop-at-init c = (omega arith, between_none _ 0 0 refl, omega arith)

pub members_together-requires : goal.members_together-requires
members_together-requires c = (omega arith, omega arith)

pub overflow_add-with_them : goal.overflow_add-with_them
overflow_add-with_them c = omega (arith, between_few (more (goal.at.overflow_add-with_them c).After-members_together))

pub returns-then-row-with_them : goal.returns-then-row-with_them
returns-then-row-with_them c = c.loop-at.invariant

pub loop-at-preserved : goal.loop-at-preserved
loop-at-preserved c = (omega arith, more (goal.at.loop-at-preserved c).After-members_together, c.if-row-with_them.false)

pub returns : goal.returns
returns c = c.loop-at.invariant
