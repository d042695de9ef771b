-- `vectors::say_dropped` is safe: each turn takes one of 75 points.
use Rattle.std.proofs.Common.{◌≤◌}
use Rattle.vectors.proofs.say_dropped.Given as goal

abbrev pub invariant-loop-t : goal.invariant-loop-t
invariant-loop-t l = l.t ≤ 75
