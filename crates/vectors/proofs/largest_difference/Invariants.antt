-- `vectors::largest_difference` is safe: before point t t is at most 75, and each turn takes one of 75 points.
use Rattle.std.proofs.Common.{◌≤◌}
use Rattle.vectors.proofs.largest_difference.Given as goal

abbrev pub invariant-loop-t : goal.invariant-loop-t
invariant-loop-t l = l.t ≤ 75
