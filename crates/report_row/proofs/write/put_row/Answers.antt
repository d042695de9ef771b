-- From the version to the date, each column before the one that was put last; how far each reaches leaves room for the next.
use Rattle.listing.proofs.PiecesLaws.{put_before}
use Rattle.report_row.proofs.PutLaws.{row_put}
use Rattle.rules.specs.Text.{text}
use Rattle.report_row.proofs.write.put_row.Goals as goal

pub returns : goal.returns
unfolding text
returns c =
    row_put c.args.row
    (put_before (put_before (put_before (put_before (put_before (put_before c.put_version-to.ensures.put c.put_figure-to.ensures.put)
    c.put_figure-to-2.ensures.put) c.put_byte-to.ensures) c.put_whose-to.ensures.put) c.put_byte-to-2.ensures)
    c.put_interval.ensures)
