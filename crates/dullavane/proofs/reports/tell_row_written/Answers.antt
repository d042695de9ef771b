-- A length is below 2^32, so its place above 32 bits is within 64; a refusal is told as every other.
use mathlib.Core.Path.{◌∙◌, ap}
use Rattle.dullavane.specs.Words.{said}
use Rattle.dullavane.proofs.reports.tell_row_written.Goals as goal

pub returns-in-Ok : goal.returns-in-Ok
returns-in-Ok c = rw c.in-Ok.is

pub returns-in-Err : goal.returns-in-Err
returns-in-Err c = rw c.in-Err.is (c.said.ensures ∙ ap said c.locate.ensures)
