-- The time, a space, and the date before it.
use mathlib.Core.List.{◌++◌}
use Prim.Native.Nat.{◌%◌}
use native.Mathlib.Omega.{arith}
use lib.Dec.{lit≤}
use Rattle.rules.specs.Text.{text}
use Rattle.report_row.specs.Columns.{time_text}
use Rattle.listing.proofs.PiecesLaws.{room_less, put_before}
use Rattle.report_row.proofs.PutLaws.{Stands, first_put, next_put, time_most, interval_put}
use Rattle.report_row.proofs.columns.put_interval.Goals as goal
use Rattle.report_row.proofs.columns.put_interval.Goals.{After-put_byte-to, After-put_time-to, Start}

abbrev S : After-put_time-to → Start
S c = (goal.at.After-put_time-to c).Start

abbrev T : After-put_byte-to → After-put_time-to
T c = (goal.at.After-put_byte-to c).After-put_time-to

time : (c : After-put_time-to) → Stands 11 (time_text ((S c).args.interval % 288)) (S c).args.at (S c).args.line.now
    c.put_time-to.result c.put_time-to.new.line
time c = first_put 8 11 (S c).requires.0 (time_most ((S c).args.interval % 288)) c.put_time-to.ensures

space : (c : After-put_byte-to) → Stands 10 (text " " ++ time_text ((S (T c)).args.interval % 288)) (S (T c)).args.at (S (T c)).args.line.now
    c.put_byte-to.result c.put_byte-to.new.line
unfolding text
space c = next_put 1 10 (time (T c)) (lit≤ tt) c.put_byte-to.ensures

pub put_byte-to-requires : goal.put_byte-to-requires
put_byte-to-requires c = room_less (lit≤ tt) (time (goal.at.put_byte-to-requires c).After-put_time-to).room

pub put_date-requires : goal.put_date-requires
put_date-requires c =
    let s = S (T (goal.at.put_date-requires c).After-put_byte-to) in
    ((space (goal.at.put_date-requires c).After-put_byte-to).room, omega (arith, s.requires.1))

pub returns : goal.returns
returns c =
    let b = space (goal.at.returns c).After-put_byte-to in
    interval_put (S (T (goal.at.returns c).After-put_byte-to)).args.interval (put_before b.put c.put_date.ensures)
