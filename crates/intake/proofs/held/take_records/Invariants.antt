-- Each turn goes at most a unit's record on.
use Prim.Native.Nat.{◌≤◌, ◌+◌, ◌*◌}
use Rattle.intake.proofs.held.take_records.Given as goal

abbrev pub invariant-loop-record : goal.invariant-loop-record
invariant-loop-record l = l.start ≤ 56 + 372 * l.record
