-- Each word has room.
use lib.Dec.{lit≤}
use Rattle.rules.specs.Text.{text}
use Rattle.report_row.proofs.PutLaws.{put_in}
use Rattle.report_row.proofs.columns.put_type.Goals as goal

pub returns-in-Calculated : goal.returns-in-Calculated
unfolding text
returns-in-Calculated c =
    rw c.in-Calculated.is (put_in (lit≤ tt) c.requires c.put_word.ensures)

pub returns-in-Default : goal.returns-in-Default
unfolding text
returns-in-Default c =
    rw c.in-Default.is (put_in (lit≤ tt) c.requires c.put_word-in-Default.ensures)
