-- A number that is not below zero is its own size.
use mathlib.Core.Path.{sym}
use lib.IntN.{pos}
use lib.Signed.{◌≤ℤ◌}
use mir.Facts.{to_z-of_z}
use Rattle.integers.proofs.Order.{<ℤ-≤ℤ}
use Rattle.integers.proofs.Tests.{ltZ_true, ltZ_false}
use Rattle.integers.proofs.Casts.{to_unsigned, gain_pos, no_gain}
use Rattle.interval.proofs.sizes.above.Goals as goal
use Rattle.interval.proofs.sizes.above.Goals.{Else-x-lt0}

not_below : (c : Else-x-lt0) → pos 0 ≤ℤ c.args.x
not_below c = ltZ_false (rw (to_z-of_z c.ranges.x) at c.if-x-lt0.false)

pub returns-then-x-lt0 : goal.returns-then-x-lt0
returns-then-x-lt0 c = sym (no_gain c.args.x (<ℤ-≤ℤ (ltZ_true (rw (to_z-of_z c.ranges.x) at c.if-x-lt0.true))))

pub overflow_cast-result : goal.overflow_cast-result
overflow_cast-result c = rw (to_z-of_z c.ranges.x) (to_unsigned tt c.ranges.x (not_below (goal.at.overflow_cast-result c).Else-x-lt0))

pub returns : goal.returns
returns c = rw (to_z-of_z c.ranges.x) (gain_pos c.args.x (not_below (goal.at.returns c).Else-x-lt0))
