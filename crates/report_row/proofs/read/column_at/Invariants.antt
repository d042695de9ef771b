-- The bytes passed are none of them a comma: what is left of the column is what is left of the row before one.
use Rattle.report_row.proofs.SaidLaws.{Passed}
use Rattle.report_row.proofs.read.column_at.Given as goal

abbrev pub invariant-loop-end : goal.invariant-loop-end
invariant-loop-end l = Passed l.row l.from l.end
