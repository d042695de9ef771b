-- The words hold a tally that can be asked and the answer is told, or they hold none and the refusal is.
use mathlib.Core.Path.{refl, ap}
use borrow.Author.Tests.{leb-true}
use Rattle.dullavane.specs.Words.{reply_number}
use Rattle.dullavane.proofs.WordsLaws.{was_handed}
use Rattle.dullavane.proofs.Called.{was_called, was_unheld}
use Rattle.dullavane.proofs.AskedLaws.{asked_means}
use Rattle.dullavane.proofs.dullavane_answer.Goals as goal

pub tell_answer-requires : goal.tell_answer-requires
tell_answer-requires c = leb-true _ _ (asked_means _ _ _ refl (ap reply_number (was_handed _ c.asked.ensures c.in-Ok.is))).long_so

pub returns-in-Ok : goal.returns-in-Ok
returns-in-Ok c =
    λ rest. record { answer = was_called _ _ _ _ _ (was_handed _ c.asked.ensures c.in-Ok.is) (c.answer-answered.ensures rest) c.tell_answer.ensures }

pub returns-in-Err : goal.returns-in-Err
returns-in-Err c =
    λ rest. record { answer = was_unheld _ _ _ _ _ (was_handed _ c.asked.ensures c.in-Err.is) c.refusal_number.ensures refl }
