-- The line feed, the number before it, then the word.
use lib.Dec.{lit≤}
use Rattle.rules.specs.Text.{text, words}
use Rattle.listing.specs.Pieces.{Room}
use Rattle.listing.proofs.PiecesLaws.{room_less, room_after, natural_most}
use Rattle.listing.proofs.LinesLaws.{put_onto, line_starts}
use Rattle.listing.proofs.lines.interval_line.Goals as goal
use Rattle.listing.proofs.lines.interval_line.Goals.{After-put_natural-end}

numbered : (c : After-put_natural-end) → Room 143 c.put_natural-end.result c.put_natural-end.new.line
numbered c = room_after {k = 143} {j = 21} c.put_end-last.ensures.room (natural_most _) c.put_natural-end.ensures

pub put-requires : goal.put-requires
put-requires c = room_less (lit≤ tt) (numbered (goal.at.put-requires c).After-put_natural-end)

pub returns : goal.returns
unfolding text words
returns c =
    let w = put_onto c.put.ensures (put_onto c.put_natural-end.ensures c.put_end-last.ensures.line_written) in
    record { line_written = w; upper_bound = line_starts w }
