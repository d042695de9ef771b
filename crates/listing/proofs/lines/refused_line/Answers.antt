-- The line feed, then t, the place, the number and the word before them.
use lib.Dec.{lit≤}
use Rattle.rules.specs.Text.{text, words}
use Rattle.listing.specs.Pieces.{Room}
use Rattle.listing.proofs.PiecesLaws.{room_less, room_after, natural_most}
use Rattle.listing.proofs.LinesLaws.{put_onto, line_starts}
use Rattle.listing.proofs.lines.refused_line.Goals as goal
use Rattle.listing.proofs.lines.refused_line.Goals.{After-put_natural-at, After-put_natural-at-2, After-put_natural-at-3}

pointed : (c : After-put_natural-at) → Room 143 c.put_natural-at.result c.put_natural-at.new.line
pointed c = room_after {k = 143} {j = 21} c.put_end-last.ensures.room (natural_most _) c.put_natural-at.ensures

placed : (c : After-put_natural-at-2) → Room 122 c.put_natural-at-2.result c.put_natural-at-2.new.line
placed c = room_after {k = 122} {j = 21} (pointed (goal.at.After-put_natural-at-2 c).After-put_natural-at) (natural_most _) c.put_natural-at-2.ensures

numbered : (c : After-put_natural-at-3) → Room 101 c.put_natural-at-3.result c.put_natural-at-3.new.line
numbered c = room_after {k = 101} {j = 21} (placed (goal.at.After-put_natural-at-3 c).After-put_natural-at-2) (natural_most _) c.put_natural-at-3.ensures

pub put_natural-at-requires-2 : goal.put_natural-at-requires-2
put_natural-at-requires-2 c = room_less (lit≤ tt) (pointed (goal.at.put_natural-at-requires-2 c).After-put_natural-at)

pub put_natural-at-requires-3 : goal.put_natural-at-requires-3
put_natural-at-requires-3 c = room_less (lit≤ tt) (placed (goal.at.put_natural-at-requires-3 c).After-put_natural-at-2)

pub put-requires : goal.put-requires
put-requires c = room_less (lit≤ tt) (numbered (goal.at.put-requires c).After-put_natural-at-3)

pub returns : goal.returns
unfolding text words
returns c =
    let number = rw c.refusal_number.ensures at c.put_natural-at-3.ensures in
    let point = rw c.refusal_point.ensures at c.put_natural-at.ensures in
    let last = c.put_end-last.ensures.line_written in
    let w = put_onto c.put.ensures (put_onto number (put_onto c.put_natural-at-2.ensures (put_onto point last))) in
    record { line_written = w; upper_bound = line_starts w }
