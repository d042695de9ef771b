-- The line feed is set in the last place.
use native.Mathlib.Omega.{arith}
use lib.Dec.{lit≤}
use lib.ListN.{length-set}
use Rattle.listing.proofs.LinesLaws.{line_end}
use Rattle.listing.proofs.lines.put_end.Goals as goal

pub returns : goal.returns
returns c =
    let old = c.args.line.now in
    record { line_written = line_end old c.requires; room = record { free = lit≤ tt; inside = omega (arith, length-set old 164 10, c.requires) } }
