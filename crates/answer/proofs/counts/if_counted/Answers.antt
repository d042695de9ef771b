-- The number that counts is handed back as it came.
use mir.Facts.{to_z-of_z}
use Rattle.answer.proofs.counts.if_counted.Goals as goal

pub returns-then-counts : goal.returns-then-counts
returns-then-counts c = rw c.if-counts.true (to_z-of_z c.ranges.x)

pub returns-else-counts : goal.returns-else-counts
returns-else-counts c = rw c.if-counts.false
