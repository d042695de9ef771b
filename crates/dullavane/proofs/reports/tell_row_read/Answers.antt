-- The numbers are put; refused, nothing is.
use mathlib.Core.Path.{refl, ◌∙◌, ap}
use Rattle.dullavane.specs.Words.{said}
use Rattle.dullavane.proofs.reports.tell_row_read.Goals as goal

pub returns-in-Ok : goal.returns-in-Ok
returns-in-Ok c =
    rw c.in-Ok.is (refl, c.put_numbers.ensures)

pub returns-in-Err : goal.returns-in-Err
returns-in-Err c = rw c.in-Err.is (c.said.ensures ∙ ap said c.locate.ensures, refl)
