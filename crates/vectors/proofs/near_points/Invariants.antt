-- `vectors::near_points` is safe: before point t the count so far is at most t, and each turn takes one of 75 points.
use Rattle.std.proofs.Common.{◌≤◌}
use Rattle.vectors.proofs.near_points.Given as goal

abbrev pub invariant-loop-t : goal.invariant-loop-t
invariant-loop-t l = (l.t ≤ 75) × (l.near ≤ l.t)
