-- What is below zero is not below an end; from zero on the cast keeps the number.
use mir.Facts.{to_z-of_z}
use Rattle.integers.proofs.Tests.{ltZ_true, ltZ_false}
use Rattle.integers.proofs.Casts.{to_unsigned}
use Rattle.writer.proofs.WordsLaws.{below_zero, from_zero}
use Rattle.writer.proofs.words.below.Goals as goal

pub returns-then-x-lt0 : goal.returns-then-x-lt0
returns-then-x-lt0 c = below_zero c.args.end c.args.x (ltZ_true (simp (to_z-of_z, c.ranges.x) at c.if-x-lt0.true))

pub overflow_cast-result : goal.overflow_cast-result
overflow_cast-result c =
    simp (to_z-of_z, c.ranges.x) (to_unsigned tt c.ranges.x (ltZ_false (simp (to_z-of_z, c.ranges.x) at c.if-x-lt0.false)))

pub returns : goal.returns
returns c =
    simp (to_z-of_z, c.ranges.x)
    (from_zero c.args.end c.args.x (ltZ_false (simp (to_z-of_z, c.ranges.x) at c.if-x-lt0.false)))
