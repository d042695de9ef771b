-- The verdict is put; refused, nothing is.
use mathlib.Core.Path.{refl}
use Rattle.dullavane.proofs.verdicts.tell_verdict.Goals as goal

pub returns-in-Ok : goal.returns-in-Ok
returns-in-Ok c = rw c.in-Ok.is (refl, c.put_verdict.ensures)

pub returns-in-Err : goal.returns-in-Err
returns-in-Err c = rw c.in-Err.is (c.refusal_number.ensures, refl)
