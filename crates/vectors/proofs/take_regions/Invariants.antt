-- `vectors::take_regions` ends: the regions left fall.
use Rattle.std.proofs.Common.{◌≤◌}
use Rattle.vectors.proofs.take_regions.Given as goal

abbrev pub invariant-loop-region : goal.invariant-loop-region
invariant-loop-region l = l.region ≤ 5
