-- The digits of what is left of the number belong before those that are put; each turn puts one.
use Rattle.report_row.proofs.PutLaws.{Left}
use Rattle.report_row.proofs.pieces.put_padded.Given as goal

abbrev pub invariant-loop-to : goal.invariant-loop-to
invariant-loop-to l = Left l.places l.n l.at l.initial.line l.rest l.to l.line
