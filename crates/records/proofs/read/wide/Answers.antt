-- A number of 32 bits fits 64.
use mir.Facts.{to_z-of_z, sfits_widen}
use mir.Syntax.{w64}
use Rattle.records.proofs.read.wide.Goals as goal

pub overflow_cast-result : goal.overflow_cast-result
overflow_cast-result c = rw (to_z-of_z c.ranges.x) (sfits_widen {w' = w64} tt c.ranges.x)
