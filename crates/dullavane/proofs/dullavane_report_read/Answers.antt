-- Where there is room for eight numbers, what was read; else that is told.
use Rattle.dullavane.proofs.ReportsLaws.{read_short, row_was_read}
use Rattle.dullavane.proofs.dullavane_report_read.Goals as goal

pub returns-then-numbers-ge-ROW_NUMBERS : goal.returns-then-numbers-ge-ROW_NUMBERS
returns-then-numbers-ge-ROW_NUMBERS c =
    row_was_read c.if-numbers-ge-ROW_NUMBERS.true c.read_row.ensures c.tell_row_read.ensures.0 c.tell_row_read.ensures.1

pub returns : goal.returns
returns c = read_short c.if-numbers-ge-ROW_NUMBERS.false c.refusal_number.ensures
