-- By its byte, and else by how many are held.
use borrow.Author.Tests.{eq-eqb, ne_eqb}
use Rattle.report_rows.proofs.reading.row_ends.Goals as goal

pub returns-then-byte-eq10 : goal.returns-then-byte-eq10
returns-then-byte-eq10 c = rw (eq-eqb c.args.byte 10 c.if-byte-eq10.true)

pub returns : goal.returns
returns c = rw (ne_eqb c.args.byte 10 c.if-byte-eq10.false)
