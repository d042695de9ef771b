-- Before a turn the members of the rows that were looked at are counted.
use mathlib.Core.Path.{◌≡◌}
use mathlib.Core.List.{[]}
use Prim.Native.Nat.{◌+◌, ◌≤◌}
use native.Mathlib.Omega.{arith}
use Rattle.kept.specs.KeptReport.{stands}
use Rattle.answer.specs.Asked.{lent_members}
use Rattle.answer.proofs.ReportLaws.{one_most, between_none, between_more}
use Rattle.answer.proofs.report.members_together.Goals as goal
use Rattle.answer.proofs.report.members_together.Goals.{After-counted-members}

few : (c : After-counted-members) → c.counted-members.result ≤ 1
few c =
    let a = c.args in
    omega (arith, c.counted-members.ensures, one_most (stands (lent_members [] a.homes.now []) (a.from + c.loop-next.next)))

pub loop-next-init : goal.loop-next-init
loop-next-init c = (omega arith, between_none _ _ _ (omega arith), omega arith)

pub overflow_add-members : goal.overflow_add-members
overflow_add-members c = omega (arith, few (goal.at.overflow_add-members c).After-counted-members)

pub loop-next-preserved : goal.loop-next-preserved
loop-next-preserved c =
    (omega arith, between_more _ c.counted-members.result c.loop-next.invariant.1 c.counted-members.ensures (omega arith), omega (arith, few (goal.at.loop-next-preserved c).After-counted-members))

pub returns : goal.returns
returns c =
    let e : c.loop-next.next ≡ 64 = omega arith in
    rw e at c.loop-next.invariant.1
