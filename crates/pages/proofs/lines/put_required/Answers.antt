-- The direction, the number before it, then the word.
use native.Mathlib.Omega.{arith}
use Rattle.rules.specs.Text.{text}
use Rattle.listing.proofs.PiecesLaws.{put_there, put_before, digits_most}
use Rattle.pages.proofs.DrawLaws.{way_long}
use Rattle.pages.proofs.lines.put_required.Goals as goal

pub returns : goal.returns
unfolding text
returns c =
    let p = c.put_direction-way.ensures in
    let long = way_long c.args.direction in
    let q = put_there (record { free = omega (arith, p.place, long); inside = omega (arith, p.place, p.size, c.requires) }) c.put_number-digits.ensures in
    put_before (put_before p q)
    (put_there
    (record {
      free = omega (arith, p.place, long, q.place, digits_most 20 c.args.number);
      inside = omega (arith, p.place, p.size, q.place, q.size, c.requires);
    })
    c.put_word.ensures)
