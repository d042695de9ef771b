-- `units::range::bits` meets its contract: one more than a number below zero has a negative, and its size is one less.
use Rattle.std.proofs.Common.{ℤ, pos, ◌+ℤ◌, ◌-ℤ◌, ◌≤ℤ◌, ◌<ℤ◌, arith, to_z-of_z, w64, SFits}
use Rattle.integers.proofs.Tests.{ltZ_true, ltZ_false}
use Rattle.integers.proofs.Casts.{turned, fits_up, fits_loss, to_unsigned}
use Rattle.units.proofs.RangeLaws.{bits_below, bits_above}
use Rattle.units.proofs.range.bits.Goals as goal
use Rattle.units.proofs.range.bits.Goals.{Else-x-lt0, Then-x-lt0}

module _ (c : Then-x-lt0) where
  abbrev number : ℤ
  number = c.args.x

  abbrev fits : SFits w64 number
  fits = c.ranges.x

  below : number <ℤ pos 0
  below = ltZ_true (simp (to_z-of_z, c.ranges.x) at c.if-x-lt0.true)

  up : SFits w64 (number +ℤ pos 1)
  up = fits_up number below fits

  down : SFits w64 (pos 0 -ℤ (number +ℤ pos 1))
  down = rw (turned number below) (record { sfits = fits_loss number below fits })

above : (c : Else-x-lt0) → pos 0 ≤ℤ c.args.x
above c = ltZ_false (simp (to_z-of_z, c.ranges.x) at c.if-x-lt0.false)

pub overflow_add-result : goal.overflow_add-result
overflow_add-result c = simp (to_z-of_z, c.ranges.x) (up (goal.at.overflow_add-result c).Then-x-lt0)

pub overflow_sub-result : goal.overflow_sub-result
overflow_sub-result c = simp (to_z-of_z, c.ranges.x, up (goal.at.overflow_sub-result c).Then-x-lt0) (down (goal.at.overflow_sub-result c).Then-x-lt0)

pub overflow_cast-result : goal.overflow_cast-result
overflow_cast-result c =
    simp (to_z-of_z, c.ranges.x, up (goal.at.overflow_cast-result c).Then-x-lt0, down (goal.at.overflow_cast-result c).Then-x-lt0) (rw (turned (number (goal.at.overflow_cast-result c).Then-x-lt0) (below (goal.at.overflow_cast-result c).Then-x-lt0))
    (tt, record { fits = omega (arith, fits_loss (number (goal.at.overflow_cast-result c).Then-x-lt0) (below (goal.at.overflow_cast-result c).Then-x-lt0) (fits (goal.at.overflow_cast-result c).Then-x-lt0)) }))

pub overflow_sub-result-then-x-lt0 : goal.overflow_sub-result-then-x-lt0
overflow_sub-result-then-x-lt0 c =
    simp (to_z-of_z, c.ranges.x, up (goal.at.overflow_sub-result-then-x-lt0 c).Then-x-lt0, down (goal.at.overflow_sub-result-then-x-lt0 c).Then-x-lt0) (rw (turned (number (goal.at.overflow_sub-result-then-x-lt0 c).Then-x-lt0) (below (goal.at.overflow_sub-result-then-x-lt0 c).Then-x-lt0)) (omega (arith, fits_loss (number (goal.at.overflow_sub-result-then-x-lt0 c).Then-x-lt0) (below (goal.at.overflow_sub-result-then-x-lt0 c).Then-x-lt0) (fits (goal.at.overflow_sub-result-then-x-lt0 c).Then-x-lt0))))

pub returns-then-x-lt0 : goal.returns-then-x-lt0
returns-then-x-lt0 c = simp (to_z-of_z, c.ranges.x, up (goal.at.returns-then-x-lt0 c).Then-x-lt0, down (goal.at.returns-then-x-lt0 c).Then-x-lt0) (rw (turned (number (goal.at.returns-then-x-lt0 c).Then-x-lt0) (below (goal.at.returns-then-x-lt0 c).Then-x-lt0)) (bits_below (number (goal.at.returns-then-x-lt0 c).Then-x-lt0) (below (goal.at.returns-then-x-lt0 c).Then-x-lt0) (fits (goal.at.returns-then-x-lt0 c).Then-x-lt0)))

pub overflow_cast-result-2 : goal.overflow_cast-result-2
overflow_cast-result-2 c = simp (to_z-of_z, c.ranges.x) (to_unsigned tt c.ranges.x (above (goal.at.overflow_cast-result-2 c).Else-x-lt0))

pub returns : goal.returns
returns c = simp (to_z-of_z, c.ranges.x) (bits_above c.args.x (above (goal.at.returns c).Else-x-lt0))
