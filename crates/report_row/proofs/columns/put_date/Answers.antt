-- From the year to the day, each piece before the one that was put last.
use mathlib.Core.Path.{ap}
use mathlib.Core.List.{◌++◌}
use lib.Dec.{lit≤}
use Rattle.rules.specs.Text.{text}
use Rattle.rules.specs.Calendar.{Date}
use Rattle.rules.specs.ReportRow.{padded}
use Rattle.listing.proofs.PiecesLaws.{room_less, put_before}
use Rattle.report_row.specs.Dates.{date_of}
use Rattle.report_row.specs.Columns.{day_text}
use Rattle.report_row.proofs.PutLaws.{padded_most, Stands, first_put, next_put}
use Rattle.report_row.proofs.columns.put_date.Goals as goal
use Rattle.report_row.proofs.columns.put_date.Goals.{After-date_after-date, After-put_byte-to, After-put_byte-to-2, After-put_padded-to, After-put_padded-to-2, Start}

abbrev A : After-put_padded-to → After-date_after-date
A c = (goal.at.After-put_padded-to c).After-date_after-date

abbrev S : After-put_padded-to → Start
S c = (goal.at.After-put_padded-to c).Start

-- the one before each
abbrev Y : After-put_byte-to → After-put_padded-to
Y c = (goal.at.After-put_byte-to c).After-put_padded-to

abbrev B : After-put_padded-to-2 → After-put_byte-to
B c = (goal.at.After-put_padded-to-2 c).After-put_byte-to

abbrev M : After-put_byte-to-2 → After-put_padded-to-2
M c = (goal.at.After-put_byte-to-2 c).After-put_padded-to-2

module _ (c : After-put_padded-to) where
  abbrev D : Date
  D = date_of (A c).date_after-date.result

  year : Stands 6 (padded 4 D.year) (S c).args.at (S c).args.line.now c.put_padded-to.result c.put_padded-to.new.line
  year = first_put 4 6 (S c).requires.0 (padded_most 4 _) c.put_padded-to.ensures

slash : (c : After-put_byte-to) → Stands 5 (text "/" ++ padded 4 (D (Y c)).year) (S (Y c)).args.at (S (Y c)).args.line.now
    c.put_byte-to.result c.put_byte-to.new.line
unfolding text
slash c = next_put 1 5 (year (Y c)) (lit≤ tt) c.put_byte-to.ensures

month : (c : After-put_padded-to-2) →
    Stands 3 (padded 2 (D (Y (B c))).month ++ (text "/" ++ padded 4 (D (Y (B c))).year)) (S (Y (B c))).args.at (S (Y (B c))).args.line.now
    c.put_padded-to-2.result c.put_padded-to-2.new.line
month c = next_put 2 3 (slash (B c)) (padded_most 2 _) c.put_padded-to-2.ensures

second_slash : (c : After-put_byte-to-2) →
    Stands 2 (text "/" ++ (padded 2 (D (Y (B (M c)))).month ++ (text "/" ++ padded 4 (D (Y (B (M c)))).year))) (S (Y (B (M c)))).args.at
    (S (Y (B (M c)))).args.line.now c.put_byte-to-2.result c.put_byte-to-2.new.line
unfolding text
second_slash c = next_put 1 2 (month (M c)) (lit≤ tt) c.put_byte-to-2.ensures

pub put_byte-to-requires : goal.put_byte-to-requires
put_byte-to-requires c = room_less (lit≤ tt) (year (goal.at.put_byte-to-requires c).After-put_padded-to).room

pub put_padded-to-requires-2 : goal.put_padded-to-requires-2
put_padded-to-requires-2 c = room_less (lit≤ tt) (slash (goal.at.put_padded-to-requires-2 c).After-put_byte-to).room

pub put_byte-to-requires-2 : goal.put_byte-to-requires-2
put_byte-to-requires-2 c = room_less (lit≤ tt) (month (goal.at.put_byte-to-requires-2 c).After-put_padded-to-2).room

pub put_padded-requires : goal.put_padded-requires
put_padded-requires c = (second_slash (goal.at.put_padded-requires c).After-put_byte-to-2).room

pub returns : goal.returns
returns c =
    rw (ap day_text (A (Y (B (M (goal.at.returns c).After-put_byte-to-2)))).date_after-date.ensures) at (put_before (second_slash (goal.at.returns c).After-put_byte-to-2).put c.put_padded.ensures)
