-- The requirement on show is one of the book's.
use Rattle.std.proofs.Common.{subst}
use Rattle.watch.specs.Commands.{Within}
use Rattle.watch.proofs.requirements.watch_requirements.Goals as goal

pub loop-preserved : goal.loop-preserved
loop-preserved c = subst (Within _) c.in-Requirement.is c.watch_requirement-left.ensures
