-- A length is below 2^32, so its place above 32 bits is within 64; a refusal is told as every other.
use Rattle.dullavane.proofs.writing.tell_written.Goals as goal

pub returns-in-Ok : goal.returns-in-Ok
returns-in-Ok c = rw c.in-Ok.is

pub returns-in-Err : goal.returns-in-Err
returns-in-Err c = rw c.in-Err.is c.said.ensures
