-- Each turn lays one unit behind those that are laid already.
use Rattle.laws.proofs.LaidLaws.{unit_length}
use Rattle.writer.specs.Values.{unit_values}
use Rattle.writer.proofs.PutLaws.{run_none, run_more, run_all}
use Rattle.writer.proofs.write.lay_units.Goals as goal

pub loop-unit-init : goal.loop-unit-init
loop-unit-init c = run_none

pub loop-unit-preserved : goal.loop-unit-preserved
loop-unit-preserved c =
    let g = unit_values c.args.rows.now c.args.qualities.now c.args.readings.now in
    run_more 372 (unit_length g) c.requires.bytes c.loop-unit-test.true c.loop-unit.invariant
    c.lay_unit.ensures

pub returns : goal.returns
returns c = run_all c.loop-unit-test.false c.loop-unit.invariant
