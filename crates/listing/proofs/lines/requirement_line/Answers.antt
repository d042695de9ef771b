-- The line feed, then from the last number to the first word.
use lib.Dec.{lit≤}
use Rattle.rules.specs.Text.{text, words}
use Rattle.listing.specs.Pieces.{Room, direction_piece}
use Rattle.listing.proofs.PiecesLaws.{room_less, room_after, natural_most, direction_most}
use Rattle.listing.proofs.LinesLaws.{put_onto, line_starts}
use Rattle.listing.proofs.lines.requirement_line.Goals as goal
use Rattle.listing.proofs.lines.requirement_line.Goals.{After-put_direction-at, After-put_natural-at, After-put_natural-at-2, After-put_natural-at-3, After-put_natural-at-4, After-put_natural-at-5, After-put_natural-at-6, After-put_natural-at-7}

unused_unplaced : (c : After-put_natural-at) → Room 143 c.put_natural-at.result c.put_natural-at.new.line
unused_unplaced c = room_after {k = 143} {j = 21} c.put_end-last.ensures.room (natural_most _) c.put_natural-at.ensures

used_unplaced : (c : After-put_natural-at-2) → Room 122 c.put_natural-at-2.result c.put_natural-at-2.new.line
used_unplaced c = room_after {k = 122} {j = 21} (unused_unplaced (goal.at.After-put_natural-at-2 c).After-put_natural-at) (natural_most _) c.put_natural-at-2.ensures

unused_put : (c : After-put_natural-at-3) → Room 101 c.put_natural-at-3.result c.put_natural-at-3.new.line
unused_put c = room_after {k = 101} {j = 21} (used_unplaced (goal.at.After-put_natural-at-3 c).After-put_natural-at-2) (natural_most _) c.put_natural-at-3.ensures

used_put : (c : After-put_natural-at-4) → Room 80 c.put_natural-at-4.result c.put_natural-at-4.new.line
used_put c = room_after {k = 80} {j = 21} (unused_put (goal.at.After-put_natural-at-4 c).After-put_natural-at-3) (natural_most _) c.put_natural-at-4.ensures

pool_put : (c : After-put_natural-at-5) → Room 59 c.put_natural-at-5.result c.put_natural-at-5.new.line
pool_put c = room_after {k = 59} {j = 21} (used_put (goal.at.After-put_natural-at-5 c).After-put_natural-at-4) (natural_most _) c.put_natural-at-5.ensures

rcr_put : (c : After-put_natural-at-6) → Room 38 c.put_natural-at-6.result c.put_natural-at-6.new.line
rcr_put c = room_after {k = 38} {j = 21} (pool_put (goal.at.After-put_natural-at-6 c).After-put_natural-at-5) (natural_most _) c.put_natural-at-6.ensures

directed : (c : After-put_direction-at) → Room 32 c.put_direction-at.result c.put_direction-at.new.line
directed c = room_after {k = 32} {j = 6} (rcr_put (goal.at.After-put_direction-at c).After-put_natural-at-6) (direction_most _) c.put_direction-at.ensures

numbered : (c : After-put_natural-at-7) → Room 11 c.put_natural-at-7.result c.put_natural-at-7.new.line
numbered c = room_after {k = 11} {j = 21} (directed (goal.at.After-put_natural-at-7 c).After-put_direction-at) (natural_most _) c.put_natural-at-7.ensures

pub put_natural-at-requires-2 : goal.put_natural-at-requires-2
put_natural-at-requires-2 c = room_less (lit≤ tt) (unused_unplaced (goal.at.put_natural-at-requires-2 c).After-put_natural-at)

pub put_natural-at-requires-3 : goal.put_natural-at-requires-3
put_natural-at-requires-3 c = room_less (lit≤ tt) (used_unplaced (goal.at.put_natural-at-requires-3 c).After-put_natural-at-2)

pub put_natural-at-requires-4 : goal.put_natural-at-requires-4
put_natural-at-requires-4 c = room_less (lit≤ tt) (unused_put (goal.at.put_natural-at-requires-4 c).After-put_natural-at-3)

pub put_natural-at-requires-5 : goal.put_natural-at-requires-5
put_natural-at-requires-5 c = room_less (lit≤ tt) (used_put (goal.at.put_natural-at-requires-5 c).After-put_natural-at-4)

pub put_natural-at-requires-6 : goal.put_natural-at-requires-6
put_natural-at-requires-6 c = room_less (lit≤ tt) (pool_put (goal.at.put_natural-at-requires-6 c).After-put_natural-at-5)

pub put_direction-at-requires : goal.put_direction-at-requires
put_direction-at-requires c = room_less (lit≤ tt) (rcr_put (goal.at.put_direction-at-requires c).After-put_natural-at-6)

pub put_natural-at-requires-7 : goal.put_natural-at-requires-7
put_natural-at-requires-7 c = room_less (lit≤ tt) (directed (goal.at.put_natural-at-requires-7 c).After-put_direction-at)

pub put-requires : goal.put-requires
put-requires c = room_less (lit≤ tt) (numbered (goal.at.put-requires c).After-put_natural-at-7)

pub returns : goal.returns
unfolding text words direction_piece
returns c =
    let last = c.put_end-last.ensures.line_written in
    let tail =
    put_onto c.put_natural-at-5.ensures (put_onto c.put_natural-at-4.ensures
    (put_onto c.put_natural-at-3.ensures (put_onto c.put_natural-at-2.ensures (put_onto c.put_natural-at.ensures last)))) in
    let w =
    put_onto c.put.ensures
    (put_onto c.put_natural-at-7.ensures (put_onto c.put_direction-at.ensures (put_onto c.put_natural-at-6.ensures tail))) in
    record { line_written = w; upper_bound = line_starts w }
