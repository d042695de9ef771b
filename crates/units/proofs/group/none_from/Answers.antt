-- Before a place no unit passed is of the group; the first that is ends the loop.
use Rattle.std.proofs.Common.{◌≡◌, sym, arith, eq-eqb, ne_eqb}
use Rattle.integers.proofs.Sums.{every_step, every_fails}
use Rattle.units.specs.Groups.{not_of}
use Rattle.units.proofs.group.none_from.Goals as goal

pub loop-at-init : goal.loop-at-init
loop-at-init c = (omega arith, c.requires.2)

pub returns-then-groups-at : goal.returns-then-groups-at
returns-then-groups-at c =
    let a = c.args in
    sym (every_fails a.row (not_of a.group a.groups.now) c.loop-at.at (omega arith) (rw (eq-eqb _ _ c.if-groups-at.true)))

pub loop-at-preserved : goal.loop-at-preserved
loop-at-preserved c =
    let a = c.args in
    (omega arith, every_step c.loop-at.at (not_of a.group a.groups.now) c.loop-at.invariant.1 (rw (ne_eqb _ _ c.if-groups-at.false)))

pub returns : goal.returns
returns c =
    let a = c.args in
    let e : c.loop-at.at ≡ a.row = omega arith in
    sym (rw e at c.loop-at.invariant.1)
