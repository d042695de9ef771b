-- Each branch settles one length, in the order of the lists.
use Rattle.std.proofs.Common.{le-leb}
use borrow.Author.Tests.{lt-leb}
use Rattle.units.proofs.lent.units_long.Goals as goal

pub returns-then-numbers-units : goal.returns-then-numbers-units
returns-then-numbers-units c = simp (lt-leb _ _ c.if-numbers-units.true)

pub returns-then-homes-units : goal.returns-then-homes-units
returns-then-homes-units c = simp (le-leb _ _ c.if-numbers-units.false, lt-leb _ _ c.if-homes-units.true)

pub returns-then-rows-units : goal.returns-then-rows-units
returns-then-rows-units c = simp (le-leb _ _ c.if-numbers-units.false, le-leb _ _ c.if-homes-units.false, lt-leb _ _ c.if-rows-units.true)

pub returns-then-groups-units : goal.returns-then-groups-units
returns-then-groups-units c =
    simp (le-leb _ _ c.if-numbers-units.false, le-leb _ _ c.if-homes-units.false, le-leb _ _ c.if-rows-units.false, lt-leb _ _ c.if-groups-units.true)

pub returns : goal.returns
returns c =
    rw (le-leb _ _ c.if-numbers-units.false, le-leb _ _ c.if-homes-units.false, le-leb _ _ c.if-rows-units.false, le-leb _ _ c.if-groups-units.false)
