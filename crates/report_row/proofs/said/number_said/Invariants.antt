-- What is left of the bytes, read after the number so far, says what all of them say. That never falls, so past the most it is more than the most.
use Prim.Native.Nat.{◌+◌}
use Rattle.report_row.proofs.SaidLaws.{SaidTo}
use Rattle.report_row.proofs.said.number_said.Given as goal

abbrev pub invariant-loop-byte : goal.invariant-loop-byte
invariant-loop-byte l = SaidTo l.most l.bytes l.number (l.count + l.byte-index)
