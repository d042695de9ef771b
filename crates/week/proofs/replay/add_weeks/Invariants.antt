-- The weeks left fall.
use Prim.Native.Nat.{◌+◌, ◌≤◌}
use Rattle.week.proofs.replay.add_weeks.Given as goal

abbrev pub invariant-loop-at : goal.invariant-loop-at
invariant-loop-at l = l.at ≤ l.to + l.at
