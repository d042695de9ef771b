-- Each turn lays one region behind those that are laid already.
use Rattle.laws.proofs.LaidLaws.{region_length}
use Rattle.writer.specs.Values.{region_values}
use Rattle.writer.proofs.PutLaws.{run_none, run_more, run_all}
use Rattle.writer.proofs.write.lay_regions.Goals as goal

pub loop-region-init : goal.loop-region-init
loop-region-init c = run_none

pub loop-region-preserved : goal.loop-region-preserved
loop-region-preserved c =
    let g = region_values c.args.rows.now c.args.qualities.now c.args.frequencies.now in
    run_more 368 (region_length g) c.requires.0 c.loop-region-test.true c.loop-region.invariant
    c.lay_region.ensures

pub returns : goal.returns
returns c = run_all c.loop-region-test.false c.loop-region.invariant
