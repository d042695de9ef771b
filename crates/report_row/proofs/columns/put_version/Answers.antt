-- The line feed, and the digits before it.
use native.Mathlib.Omega.{arith}
use lib.Dec.{lit≤}
use Rattle.rules.specs.Text.{text}
use Rattle.listing.proofs.PiecesLaws.{put_before}
use Rattle.report_row.proofs.ColumnLaws.{version_long}
use Rattle.report_row.proofs.PutLaws.{put_in, Stands, first_put}
use Rattle.report_row.proofs.columns.put_version.Goals as goal
use Rattle.report_row.proofs.columns.put_version.Goals.{After-put_byte-to, Start}

abbrev S : After-put_byte-to → Start
S c = (goal.at.After-put_byte-to c).Start

feed : (c : After-put_byte-to) → Stands 20 (text "\n") (S c).args.at (S c).args.line.now c.put_byte-to.result c.put_byte-to.new.line
unfolding text
feed c = first_put 1 20 (S c).requires (lit≤ tt) c.put_byte-to.ensures

pub returns : goal.returns
returns c =
    let b = feed (goal.at.returns c).After-put_byte-to in
    let w = put_before b.put (put_in {j = 20} (lit≤ tt) b.room c.put_number.ensures) in
    let v = S (goal.at.returns c).After-put_byte-to in
    record { put = w; at_bound = omega (arith, w.place, (version_long v.args.version (omega (arith, v.ranges.version))).most) }
