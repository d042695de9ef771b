-- `vectors::bounded` meets its contract: what passes both tests is within the limit.
use Rattle.std.proofs.Common.{pos, negsuc, ◌≤ℤ◌, to_z-of_z}
use Rattle.integers.proofs.Bounds.{within_both}
use Rattle.integers.proofs.Tests.{ltZ_false}
use Rattle.vectors.proofs.bounded.Goals as goal

pub returns : goal.returns
returns c =
    let low : negsuc 9_999_999 ≤ℤ c.args.x = ltZ_false (simp (to_z-of_z, c.ranges.x) at c.if-x-ltminus10000000.false) in
    let high : c.args.x ≤ℤ pos 10_000_000 = ltZ_false (simp (to_z-of_z, c.ranges.x) at c.if-x-gt10000000.false) in
    rw (to_z-of_z c.ranges.x) (within_both low high)
