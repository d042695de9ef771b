-- By its sign a size is one of the two parts; the other is 0.
use native.Mathlib.Omega.{arith}
use lib.IntN.{pos}
use lib.Signed.{◌<ℤ◌, ◌≤ℤ◌}
use mir.Facts.{to_z-of_z}
use Rattle.integers.proofs.Bounds.{abs_is}
use Rattle.integers.proofs.Order.{<ℤ-≤ℤ}
use Rattle.integers.proofs.Tests.{ltZ_true, ltZ_false}
use Rattle.integers.proofs.Casts.{no_gain, no_loss}
use Rattle.interval.proofs.sizes.size.Goals as goal

pub returns-then-x-lt0 : goal.returns-then-x-lt0
returns-then-x-lt0 c =
    let x = c.args.x in
    let h : x <ℤ pos 0 = ltZ_true (rw (to_z-of_z c.ranges.x) at c.if-x-lt0.true) in
    omega (arith, rw (to_z-of_z c.ranges.x) at c.below.ensures, abs_is x, no_gain x (<ℤ-≤ℤ h))

pub returns : goal.returns
returns c =
    let x = c.args.x in
    let h : pos 0 ≤ℤ x = ltZ_false (rw (to_z-of_z c.ranges.x) at c.if-x-lt0.false) in
    omega (arith, rw (to_z-of_z c.ranges.x) at c.above.ensures, abs_is x, no_loss x h)
