-- The negative of one more than a number below zero fits every width; from zero on the cast keeps the number.
use lib.IntN.{pos}
use lib.Signed.{◌<ℤ◌, ◌≤ℤ◌}
use native.Mathlib.Omega.{arith}
use mir.Facts.{to_z-of_z}
use Rattle.integers.proofs.Tests.{ltZ_true, ltZ_false}
use Rattle.integers.proofs.Casts.{to_unsigned, fits_loss}
use Rattle.writer.proofs.WordsLaws.{next_fits, turned_fits, turned_is, turned_below, turned_above}
use Rattle.writer.proofs.words.turned_four.Goals as goal
use Rattle.writer.proofs.words.turned_four.Goals.{Else-x-lt0, Then-x-lt0}

under : (c : Then-x-lt0) → c.args.x <ℤ pos 0
under c = ltZ_true (simp (to_z-of_z, c.ranges.x) at c.if-x-lt0.true)

above : (c : Else-x-lt0) → pos 0 ≤ℤ c.args.x
above c = ltZ_false (simp (to_z-of_z, c.ranges.x) at c.if-x-lt0.false)

pub overflow_add-result : goal.overflow_add-result
overflow_add-result c = next_fits c.args.x c.ranges.x (under (goal.at.overflow_add-result c).Then-x-lt0)

pub overflow_sub-result : goal.overflow_sub-result
overflow_sub-result c = turned_fits c.args.x c.ranges.x (under (goal.at.overflow_sub-result c).Then-x-lt0)

pub overflow_cast-result : goal.overflow_cast-result
overflow_cast-result c =
    rw (turned_is c.args.x c.ranges.x (under (goal.at.overflow_cast-result c).Then-x-lt0))
    (tt, record { fits = omega (arith, fits_loss c.args.x (under (goal.at.overflow_cast-result c).Then-x-lt0) c.ranges.x) })

pub overflow_sub-result-then-x-lt0 : goal.overflow_sub-result-then-x-lt0
overflow_sub-result-then-x-lt0 c =
    rw (turned_is c.args.x c.ranges.x (under (goal.at.overflow_sub-result-then-x-lt0 c).Then-x-lt0)) (omega (arith, fits_loss c.args.x (under (goal.at.overflow_sub-result-then-x-lt0 c).Then-x-lt0) c.ranges.x))

pub overflow_cast-result-else-x-lt0 : goal.overflow_cast-result-else-x-lt0
overflow_cast-result-else-x-lt0 c = simp (to_z-of_z, c.ranges.x) (to_unsigned tt c.ranges.x (above (goal.at.overflow_cast-result-else-x-lt0 c).Else-x-lt0))

pub returns-then-x-lt0 : goal.returns-then-x-lt0
returns-then-x-lt0 c = rw (turned_is c.args.x c.ranges.x (under (goal.at.returns-then-x-lt0 c).Then-x-lt0)) (turned_below 4294967295 c.args.x (under (goal.at.returns-then-x-lt0 c).Then-x-lt0))

pub returns-else-x-lt0 : goal.returns-else-x-lt0
returns-else-x-lt0 c = simp (to_z-of_z, c.ranges.x) (turned_above 4294967296 c.args.x (above (goal.at.returns-else-x-lt0 c).Else-x-lt0))
