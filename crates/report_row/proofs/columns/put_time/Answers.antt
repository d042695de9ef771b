-- From the seconds to the hour, each piece before the one that was put last.
use mathlib.Core.List.{◌++◌}
use Prim.Native.Nat.{◌*◌, ◌%◌}
use lib.Dec.{lit≤}
use Rattle.rules.specs.Text.{text}
use Rattle.rules.specs.ReportRow.{padded}
use Rattle.listing.proofs.PiecesLaws.{room_less, put_before}
use Rattle.report_row.proofs.PutLaws.{padded_most, put_in, Stands, first_put, next_put}
use Rattle.report_row.proofs.columns.put_time.Goals as goal
use Rattle.report_row.proofs.columns.put_time.Goals.{After-put_byte-to, After-put_padded-to, After-put_word-to, Start}

abbrev S : After-put_word-to → Start
S c = (goal.at.After-put_word-to c).Start

seconds : (c : After-put_word-to) → Stands 5 (text ":00") (S c).args.at (S c).args.line.now c.put_word-to.result c.put_word-to.new.line
unfolding text
seconds c = first_put 3 5 (S c).requires (lit≤ tt) (put_in {j = 8} (lit≤ tt) (S c).requires c.put_word-to.ensures)

-- the one before each
abbrev W : After-put_padded-to → After-put_word-to
W c = (goal.at.After-put_padded-to c).After-put_word-to

abbrev M : After-put_byte-to → After-put_padded-to
M c = (goal.at.After-put_byte-to c).After-put_padded-to

minutes : (c : After-put_padded-to) → Stands 3 (padded 2 (5 * ((S (W c)).args.slot % 12)) ++ text ":00") (S (W c)).args.at (S (W c)).args.line.now
    c.put_padded-to.result c.put_padded-to.new.line
minutes c = next_put 2 3 (seconds (W c)) (padded_most 2 _) c.put_padded-to.ensures

colon : (c : After-put_byte-to) → Stands 2 (text ":" ++ (padded 2 (5 * ((S (W (M c))).args.slot % 12)) ++ text ":00")) (S (W (M c))).args.at
    (S (W (M c))).args.line.now c.put_byte-to.result c.put_byte-to.new.line
unfolding text
colon c = next_put 1 2 (minutes (M c)) (lit≤ tt) c.put_byte-to.ensures

pub put_padded-to-requires : goal.put_padded-to-requires
put_padded-to-requires c = room_less (lit≤ tt) (seconds (goal.at.put_padded-to-requires c).After-put_word-to).room

pub put_byte-to-requires : goal.put_byte-to-requires
put_byte-to-requires c = room_less (lit≤ tt) (minutes (goal.at.put_byte-to-requires c).After-put_padded-to).room

pub put_padded-requires : goal.put_padded-requires
put_padded-requires c = (colon (goal.at.put_padded-requires c).After-put_byte-to).room

pub returns : goal.returns
returns c = put_before (colon (goal.at.returns c).After-put_byte-to).put c.put_padded.ensures
