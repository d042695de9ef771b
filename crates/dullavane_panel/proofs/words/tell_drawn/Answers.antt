-- The number by what was drawn.
use Rattle.dullavane_panel.proofs.words.tell_drawn.Goals as goal

pub returns-in-Err : goal.returns-in-Err
returns-in-Err c = rw c.in-Err.is c.refusal_number.ensures
