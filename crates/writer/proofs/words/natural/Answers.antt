-- No number of 64 bits reaches the end.
use mir.Facts.{to_z-of_z}
use Rattle.writer.proofs.WordsLaws.{any_natural}
use Rattle.writer.proofs.words.natural.Goals as goal

pub returns : goal.returns
returns c = simp (to_z-of_z, c.ranges.x) (any_natural c.args.x c.ranges.x)
