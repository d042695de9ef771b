-- Words that hold no tally are told as zeros; any others hold the tally that is read.
use mathlib.Core.Path.{sym, ap}
use Rattle.dullavane.specs.Asked.{held_or_none}
use Rattle.dullavane.proofs.WordsLaws.{was_handed}
use Rattle.dullavane.proofs.asked.tally_held.Goals as goal

pub returns-in-Ok : goal.returns-in-Ok
returns-in-Ok c = sym (ap held_or_none (was_handed _ c.held.ensures c.in-Ok.is))

pub returns-in-Err : goal.returns-in-Err
returns-in-Err c = sym (ap held_or_none (was_handed _ c.held.ensures c.in-Err.is))
