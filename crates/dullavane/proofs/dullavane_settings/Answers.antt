-- The words hold a tally and the call's step is told, or they hold none and their refusal is.
use Rattle.dullavane.proofs.WordsLaws.{held_is, was_handed}
use Rattle.dullavane.proofs.Called.{was_called, was_unheld}
use Rattle.dullavane.proofs.dullavane_settings.Goals as goal

pub tell-requires : goal.tell-requires
tell-requires c = (held_is _ _ (was_handed _ c.held.ensures c.in-Ok.is)).1

pub returns-in-Ok : goal.returns-in-Ok
returns-in-Ok c =
    record { answer = was_called _ _ _ _ _ (was_handed _ c.held.ensures c.in-Ok.is) c.settings.ensures c.tell.ensures }

pub returns-in-Err : goal.returns-in-Err
returns-in-Err c =
    record { answer = was_unheld _ _ _ _ _ (was_handed _ c.held.ensures c.in-Err.is) c.refusal_number.ensures tt }
