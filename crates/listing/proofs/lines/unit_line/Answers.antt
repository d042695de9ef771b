-- The line feed, the amounts before it, then the number and the name.
use lib.Dec.{lit≤}
use Rattle.rules.specs.Text.{text, words}
use Rattle.listing.specs.Pieces.{Room}
use Rattle.listing.proofs.PiecesLaws.{room_less, room_after, natural_most}
use Rattle.listing.proofs.LinesLaws.{put_onto, amounts_onto, amounts_most, line_starts}
use Rattle.listing.proofs.lines.unit_line.Goals as goal
use Rattle.listing.proofs.lines.unit_line.Goals.{After-put_amounts-member, After-put_natural-name}

weighed : (c : After-put_amounts-member) → Room 46 c.put_amounts-member.result c.put_amounts-member.new.line
weighed c = room_after {k = 46} {j = 118} c.put_end-last.ensures.room (amounts_most _ _) c.put_amounts-member.ensures

numbered : (c : After-put_natural-name) → Room 25 c.put_natural-name.result c.put_natural-name.new.line
numbered c = room_after {k = 25} {j = 21} (weighed (goal.at.After-put_natural-name c).After-put_amounts-member) (natural_most _) c.put_natural-name.ensures

pub put_natural-name-requires : goal.put_natural-name-requires
put_natural-name-requires c = room_less (lit≤ tt) (weighed (goal.at.put_natural-name-requires c).After-put_amounts-member)

pub put-requires : goal.put-requires
put-requires c = room_less (lit≤ tt) (numbered (goal.at.put-requires c).After-put_natural-name)

pub returns : goal.returns
unfolding text words
returns c =
    let w =
    put_onto c.put.ensures (put_onto c.put_natural-name.ensures
    (amounts_onto _ _ c.put_amounts-member.ensures c.put_end-last.ensures.line_written)) in
    record { line_written = w; upper_bound = line_starts w }
