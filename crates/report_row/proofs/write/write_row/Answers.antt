-- The row is put at the end of its own line, and from there at the start of the text.
use mathlib.Core.Path.{refl}
use native.Mathlib.Omega.{arith}
use Rattle.report_row.proofs.WriteLaws.{year_refused, length_refused, row_handed}
use Rattle.report_row.proofs.write.write_row.Goals as goal
use Rattle.report_row.proofs.write.write_row.Goals.{After-put_row-start, Start}

abbrev S : After-put_row-start → Start
S p = (goal.at.After-put_row-start p).Start

pub returns-then-row-gt-LAST_INTERVAL : goal.returns-then-row-gt-LAST_INTERVAL
returns-then-row-gt-LAST_INTERVAL c = year_refused c.args.row c.args.text.now c.if-row-gt-LAST_INTERVAL.true

pub returns-then-text-length : goal.returns-then-text-length
returns-then-text-length c =
    length_refused (S (goal.at.returns-then-text-length c).After-put_row-start).args.row (S (goal.at.returns-then-text-length c).After-put_row-start).args.text.now c.if-row-gt-LAST_INTERVAL.false (omega (arith, c.if-text-length.true, c.put_row-start.ensures.place))

pub returns : goal.returns
returns c =
    row_handed (S (goal.at.returns c).After-put_row-start).args.row (S (goal.at.returns c).After-put_row-start).args.text.now c.if-row-gt-LAST_INTERVAL.false refl c.put_row-start.ensures
    (omega (arith, c.if-text-length.false)) c.put_word.ensures
