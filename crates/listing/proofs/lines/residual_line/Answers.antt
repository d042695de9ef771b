-- The line feed, the amounts before it, then the name.
use lib.Dec.{lit≤}
use Rattle.rules.specs.Text.{text, words}
use Rattle.listing.specs.Pieces.{Room}
use Rattle.listing.proofs.PiecesLaws.{room_less, room_after}
use Rattle.listing.proofs.LinesLaws.{put_onto, amounts_onto, amounts_most, line_starts}
use Rattle.listing.proofs.lines.residual_line.Goals as goal
use Rattle.listing.proofs.lines.residual_line.Goals.{After-put_amounts-member}

weighed : (c : After-put_amounts-member) → Room 46 c.put_amounts-member.result c.put_amounts-member.new.line
weighed c = room_after {k = 46} {j = 118} c.put_end-last.ensures.room (amounts_most _ _) c.put_amounts-member.ensures

pub put-requires : goal.put-requires
put-requires c = room_less (lit≤ tt) (weighed (goal.at.put-requires c).After-put_amounts-member)

pub returns : goal.returns
unfolding text words
returns c =
    let w = put_onto c.put.ensures (amounts_onto _ _ c.put_amounts-member.ensures c.put_end-last.ensures.line_written) in
    record { line_written = w; upper_bound = line_starts w }
