-- Nine decimals, the point, and the whole part before it.
use mathlib.Core.List.{◌++◌}
use Prim.Native.Nat.{◌%◌}
use lib.Dec.{lit≤}
use Rattle.rules.specs.Text.{text}
use Rattle.rules.specs.ReportRow.{padded}
use Rattle.listing.proofs.PiecesLaws.{room_less, put_before}
use Rattle.report_row.proofs.PutLaws.{padded_most, put_in, Stands, first_put, next_put}
use Rattle.report_row.proofs.columns.put_decimals.Goals as goal
use Rattle.report_row.proofs.columns.put_decimals.Goals.{After-put_byte-to, After-put_padded-to, Start}

abbrev S : After-put_padded-to → Start
S c = (goal.at.After-put_padded-to c).Start

abbrev P : After-put_byte-to → After-put_padded-to
P c = (goal.at.After-put_byte-to c).After-put_padded-to

nine : (c : After-put_padded-to) → Stands 21 (padded 9 ((S c).args.size % 1_000_000_000)) (S c).args.at (S c).args.line.now
    c.put_padded-to.result c.put_padded-to.new.line
nine c = first_put 9 21 (S c).requires (padded_most 9 _) c.put_padded-to.ensures

dot : (c : After-put_byte-to) → Stands 20 (text "." ++ padded 9 ((S (P c)).args.size % 1_000_000_000)) (S (P c)).args.at (S (P c)).args.line.now
    c.put_byte-to.result c.put_byte-to.new.line
unfolding text
dot c = next_put 1 20 (nine (P c)) (lit≤ tt) c.put_byte-to.ensures

pub put_byte-to-requires : goal.put_byte-to-requires
put_byte-to-requires c = room_less (lit≤ tt) (nine (goal.at.put_byte-to-requires c).After-put_padded-to).room

pub returns : goal.returns
returns c =
    let d = dot (goal.at.returns c).After-put_byte-to in
    put_before d.put (put_in {j = 20} (lit≤ tt) d.room c.put_number.ensures)
