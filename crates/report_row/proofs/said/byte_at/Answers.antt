-- Behind the end of a list `get_or` gives its last argument.
use mathlib.Core.Path.{sym}
use Rattle.report_row.proofs.SaidLaws.{get_d_past}
use Rattle.report_row.proofs.said.byte_at.Goals as goal

pub returns : goal.returns
returns c = sym (get_d_past c.args.column.now c.args.place c.if-place-column.false)
