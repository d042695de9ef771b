-- Each turn lays one requirement behind those that are laid already.
use Rattle.laws.proofs.LaidLaws.{requirement_length}
use Rattle.writer.specs.Values.{requirement_values}
use Rattle.writer.proofs.PutLaws.{run_none, run_more, run_all}
use Rattle.writer.proofs.write.lay_requirements.Goals as goal

pub loop-requirement-init : goal.loop-requirement-init
loop-requirement-init c = run_none

pub loop-requirement-preserved : goal.loop-requirement-preserved
loop-requirement-preserved c =
    let g = requirement_values c.args.rows.now in
    run_more 24 (requirement_length g) c.requires.bytes c.loop-requirement-test.true c.loop-requirement.invariant
    c.lay_requirement.ensures

pub returns : goal.returns
returns c = run_all c.loop-requirement-test.false c.loop-requirement.invariant
