-- The home of the row before tells; a plant that starts is cleared.
use Rattle.std.proofs.Common.{arith}
use Rattle.units.proofs.plant.plant_before.Goals as goal

pub overflow_sub-result : goal.overflow_sub-result
overflow_sub-result c = omega (arith, c.requires.1 c.if-joining.true)

pub bounds-homes-row : goal.bounds-homes-row
bounds-homes-row c = omega (arith, c.requires.1 c.if-joining.true)

pub returns-then-joining : goal.returns-then-joining
returns-then-joining c = let e = c.if-joining.true in (rw e, rw e)

pub returns : goal.returns
returns c = let e = c.if-joining.false in (rw e, rw e c.clear.ensures)
