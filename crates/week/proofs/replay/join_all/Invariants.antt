-- There is room for the names so far.
use Prim.Native.Nat.{◌≤◌}
use Rattle.week.proofs.replay.join_all.Given as goal

abbrev pub invariant-loop-row : goal.invariant-loop-row
invariant-loop-row l = (l.row ≤ l.units) × (l.joined ≤ 512)
