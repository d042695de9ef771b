-- The place is among the names.
use Prim.Native.Nat.{◌≤◌}
use Rattle.week.proofs.running.find.Given as goal

abbrev pub invariant-loop-at : goal.invariant-loop-at
invariant-loop-at l =
    l.at ≤ l.members
