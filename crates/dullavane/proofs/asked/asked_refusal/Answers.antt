-- What was asked, in a number.
use mathlib.Core.Path.{sym, ◌∙◌, ap}
use Rattle.dullavane.specs.Words.{reply_number}
use Rattle.dullavane.proofs.WordsLaws.{was_handed}
use Rattle.dullavane.proofs.asked.asked_refusal.Goals as goal

pub returns-in-Ok : goal.returns-in-Ok
returns-in-Ok c = sym (ap reply_number (was_handed _ c.asked.ensures c.in-Ok.is))

pub returns-in-Err : goal.returns-in-Err
returns-in-Err c = c.refusal_number.ensures ∙ sym (ap reply_number (was_handed _ c.asked.ensures c.in-Err.is))
