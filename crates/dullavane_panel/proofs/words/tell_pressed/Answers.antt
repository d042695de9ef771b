-- The page in its words where it was drawn, else the refusal's number.
use mathlib.Core.Path.{refl}
use Rattle.dullavane_panel.proofs.words.tell_pressed.Goals as goal

pub returns-in-Ok : goal.returns-in-Ok
returns-in-Ok c =
    rw c.in-Ok.is (refl, c.put_page.ensures)

pub returns-in-Err : goal.returns-in-Err
returns-in-Err c = rw c.in-Err.is (c.refusal_number.ensures, refl)
