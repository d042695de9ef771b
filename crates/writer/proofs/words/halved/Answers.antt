-- The two tests are those of the two signs.
use mir.Facts.{to_z-of_z}
use Rattle.writer.proofs.WordsLaws.{under_half, from_half}
use Rattle.writer.proofs.words.halved.Goals as goal

pub returns-then-x-ltminus2147483648 : goal.returns-then-x-ltminus2147483648
returns-then-x-ltminus2147483648 c = under_half 2147483648 c.args.x (simp (to_z-of_z, c.ranges.x) at c.if-x-ltminus2147483648.true)

pub returns : goal.returns
returns c = simp (to_z-of_z, c.ranges.x) (from_half 2147483648 c.args.x (simp (to_z-of_z, c.ranges.x) at c.if-x-ltminus2147483648.false))
