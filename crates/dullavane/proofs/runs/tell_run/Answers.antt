-- The words are put in either case.
use mathlib.Core.Path.{sym, ◌∙◌, ap}
use Rattle.dullavane.specs.Words.{taking_said}
use Rattle.dullavane.proofs.runs.tell_run.Goals as goal

pub returns-in-Err : goal.returns-in-Err
returns-in-Err c =
    (c.said.ensures ∙ ap taking_said (sym c.in-Err.is), c.put_words.ensures)
