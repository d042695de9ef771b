-- Two lists of bytes are the same as the library compares them.
use Rattle.rules.specs.ReportRead.{same}
use Rattle.report_row.proofs.said.same_bytes.Goals as goal

pub returns : goal.returns
unfolding same
returns c = c.eq.ensures
