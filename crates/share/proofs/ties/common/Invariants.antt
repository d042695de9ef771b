-- `common` meets its contract: what is the greatest common divisor of the two numbers at hand is that of the first two. The smaller one falls.
use Rattle.std.proofs.Common.{ℕ, ◌<◌}
use Rattle.integers.specs.Multiples.{Common}
use Rattle.share.proofs.ties.common.Given as goal

abbrev pub invariant-loop-smaller : goal.invariant-loop-smaller
invariant-loop-smaller l = (0 < l.larger) × ((g : ℕ) → Common l.larger l.smaller g → Common l.a l.b g)

abbrev pub decreases-loop-smaller : goal.decreases-loop-smaller
decreases-loop-smaller l = l.smaller
