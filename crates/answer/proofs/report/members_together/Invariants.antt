-- Before a turn the members of the rows that were looked at are counted.
use Prim.Native.Nat.{◌+◌, ◌≤◌}
use Rattle.answer.specs.Report.{MembersBetween}
use Rattle.answer.proofs.report.members_together.Given as goal

abbrev pub invariant-loop-next : goal.invariant-loop-next
invariant-loop-next l = (l.next ≤ 64) × MembersBetween l.homes l.from (l.from + l.next) l.members × (l.members ≤ l.next)
