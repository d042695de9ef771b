-- The digits, and the word before them.
use native.Mathlib.Omega.{arith}
use Rattle.rules.specs.Text.{text}
use Rattle.listing.proofs.PiecesLaws.{put_there, put_before, digits_most}
use Rattle.pages.proofs.lines.put_unit.Goals as goal

pub returns : goal.returns
unfolding text
returns c =
    let d = put_there (record { free = omega arith; inside = omega (arith, c.requires) }) c.put_number-digits.ensures in
    put_before d
    (put_there (record { free = omega (arith, d.place, digits_most 20 c.args.number); inside = omega (arith, d.place, d.size, c.requires) })
    c.put_word.ensures)
