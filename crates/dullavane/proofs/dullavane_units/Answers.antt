-- The words hold a tally and the run over it is told, or they hold none and the first record is refused.
use Rattle.dullavane.proofs.WordsLaws.{held_is, was_handed}
use Rattle.dullavane.proofs.RunsLaws.{units_called, units_unheld}
use Rattle.dullavane.proofs.dullavane_units.Goals as goal

pub tell_run-requires : goal.tell_run-requires
tell_run-requires c = (held_is _ _ (was_handed _ c.held.ensures c.in-Ok.is)).1

pub returns-in-Ok : goal.returns-in-Ok
returns-in-Ok c =
    units_called (was_handed _ c.held.ensures c.in-Ok.is) c.run-step.ensures c.tell_run.ensures

pub returns-in-Err : goal.returns-in-Err
returns-in-Err c =
    units_unheld (was_handed _ c.held.ensures c.in-Err.is) c.refusal_number.ensures c.unheld_told.ensures
