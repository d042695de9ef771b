-- The rows left fall, and no member has more units than there are rows.
use Prim.Native.Nat.{◌+◌, ◌-◌, ◌≤◌}
use Rattle.week.proofs.replay.place_of.Given as goal

abbrev pub invariant-loop-row : goal.invariant-loop-row
invariant-loop-row l = (l.row ≤ l.most) × (l.most ≤ 512) × (l.most ≤ l.units) × (l.many ≤ l.row + 1)

abbrev pub decreases-loop-row : goal.decreases-loop-row
decreases-loop-row l = l.most - l.row
