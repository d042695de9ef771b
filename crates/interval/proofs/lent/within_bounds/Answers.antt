-- Two signed tests, one for each end.
use mir.Facts.{to_z-of_z}
use Rattle.integers.proofs.Tests.{leZ_not}
use Rattle.interval.proofs.lent.within_bounds.Goals as goal

pub returns-then-x-low : goal.returns-then-x-low
returns-then-x-low c =
    let e = rw (to_z-of_z c.ranges.x, to_z-of_z c.ranges.low) at c.if-x-low.true in
    rw (leZ_not c.args.x c.args.low, e)

pub returns : goal.returns
returns c =
    let e = rw (to_z-of_z c.ranges.x, to_z-of_z c.ranges.low) at c.if-x-low.false in
    rw (to_z-of_z c.ranges.x, to_z-of_z c.ranges.high, leZ_not c.args.x c.args.low, e)
