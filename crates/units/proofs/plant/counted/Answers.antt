-- A bad plant's number is nothing.
use Rattle.std.proofs.Common.{to_z-of_z}
use Rattle.units.proofs.plant.counted.Goals as goal

pub returns-then-good : goal.returns-then-good
returns-then-good c = simp (c.if-good.true, to_z-of_z, c.ranges.x)

pub returns : goal.returns
returns c = rw c.if-good.false
