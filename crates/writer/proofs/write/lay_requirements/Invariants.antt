-- Each turn lays one requirement behind those that are laid already.
use Rattle.rules.specs.Written.{requirement_laid}
use Rattle.writer.specs.Values.{requirement_values}
use Rattle.writer.proofs.PutLaws.{Run}
use Rattle.writer.proofs.write.lay_requirements.Given as goal

abbrev pub invariant-loop-requirement : goal.invariant-loop-requirement
invariant-loop-requirement l =
    Run l.start l.requirements (requirement_laid (requirement_values l.rows)) l.initial.book l.requirement l.book
