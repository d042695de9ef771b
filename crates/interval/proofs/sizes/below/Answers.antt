-- One more than a number below zero has a negative at every width, and its size is one less.
use mathlib.Core.Path.{sym}
use lib.IntN.{ℤ, pos, ◌+ℤ◌, ◌-ℤ◌}
use lib.Signed.{◌<ℤ◌}
use mir.Syntax.{w64}
use mir.Val.{SFits}
use mir.Facts.{to_z-of_z}
use native.Mathlib.Omega.{arith}
use Rattle.integers.proofs.Tests.{ltZ_true, ltZ_false}
use Rattle.integers.proofs.Casts.{turned, fits_up, fits_loss, some_loss, no_loss}
use Rattle.interval.proofs.sizes.below.Goals as goal
use Rattle.interval.proofs.sizes.below.Goals.{Then-x-lt0}

module _ (c : Then-x-lt0) where
  abbrev x : ℤ
  x = c.args.x

  abbrev fits : SFits w64 x
  fits = c.ranges.x

  under : x <ℤ pos 0
  under = ltZ_true (simp (to_z-of_z, c.ranges.x) at c.if-x-lt0.true)

  up : SFits w64 (x +ℤ pos 1)
  up = fits_up x under fits

  down : SFits w64 (pos 0 -ℤ (x +ℤ pos 1))
  down = rw (turned x under) (record { sfits = fits_loss x under fits })

pub overflow_add-result : goal.overflow_add-result
overflow_add-result c = simp (to_z-of_z, c.ranges.x) (up (goal.at.overflow_add-result c).Then-x-lt0)

pub overflow_sub-result : goal.overflow_sub-result
overflow_sub-result c = simp (to_z-of_z, c.ranges.x, up (goal.at.overflow_sub-result c).Then-x-lt0) (down (goal.at.overflow_sub-result c).Then-x-lt0)

pub overflow_cast-result : goal.overflow_cast-result
overflow_cast-result c =
    simp (to_z-of_z, c.ranges.x, up (goal.at.overflow_cast-result c).Then-x-lt0, down (goal.at.overflow_cast-result c).Then-x-lt0) (rw (turned (x (goal.at.overflow_cast-result c).Then-x-lt0) (under (goal.at.overflow_cast-result c).Then-x-lt0)) (tt, record { fits = omega (arith, fits_loss (x (goal.at.overflow_cast-result c).Then-x-lt0) (under (goal.at.overflow_cast-result c).Then-x-lt0) (fits (goal.at.overflow_cast-result c).Then-x-lt0)) }))

pub overflow_add-result-then-x-lt0 : goal.overflow_add-result-then-x-lt0
overflow_add-result-then-x-lt0 c =
    simp (to_z-of_z, c.ranges.x, up (goal.at.overflow_add-result-then-x-lt0 c).Then-x-lt0, down (goal.at.overflow_add-result-then-x-lt0 c).Then-x-lt0) (rw (turned (x (goal.at.overflow_add-result-then-x-lt0 c).Then-x-lt0) (under (goal.at.overflow_add-result-then-x-lt0 c).Then-x-lt0)) (record { fits = omega (arith, fits_loss (x (goal.at.overflow_add-result-then-x-lt0 c).Then-x-lt0) (under (goal.at.overflow_add-result-then-x-lt0 c).Then-x-lt0) (fits (goal.at.overflow_add-result-then-x-lt0 c).Then-x-lt0)) }))

pub returns-then-x-lt0 : goal.returns-then-x-lt0
returns-then-x-lt0 c =
    simp (to_z-of_z, c.ranges.x, up (goal.at.returns-then-x-lt0 c).Then-x-lt0, down (goal.at.returns-then-x-lt0 c).Then-x-lt0) (rw (turned (x (goal.at.returns-then-x-lt0 c).Then-x-lt0) (under (goal.at.returns-then-x-lt0 c).Then-x-lt0)) (omega (arith, some_loss (x (goal.at.returns-then-x-lt0 c).Then-x-lt0) (under (goal.at.returns-then-x-lt0 c).Then-x-lt0))))

pub returns : goal.returns
returns c =
    sym (no_loss c.args.x (ltZ_false (simp (to_z-of_z, c.ranges.x) at c.if-x-lt0.false)))
