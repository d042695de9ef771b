-- Before a turn the members of the rows before are counted, and are not past the one that is asked for.
use Prim.Native.Nat.{◌-◌, ◌≤◌}
use Rattle.answer.specs.Report.{MembersBetween}
use Rattle.answer.proofs.report.rows_before.Given as goal

abbrev pub invariant-loop-at : goal.invariant-loop-at
invariant-loop-at l = (l.at ≤ l.units) × MembersBetween l.homes 0 l.at l.members × (l.members ≤ l.row)

abbrev pub decreases-loop-at : goal.decreases-loop-at
decreases-loop-at l = l.units - l.at
