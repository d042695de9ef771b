-- What is left of the bytes, read after the number so far, says what all of them say; the number has no more digits than bytes were read.
use Prim.Native.Nat.{◌≤◌}
use Rattle.report_row.proofs.SaidLaws.{FewTo}
use Rattle.report_row.proofs.said.few_said.Given as goal

abbrev pub invariant-loop-byte : goal.invariant-loop-byte
invariant-loop-byte l = (l.byte-index ≤ l.count) × FewTo l.bytes l.number l.byte-index
