-- The direction's word after its space, by the direction.
use native.Mathlib.Omega.{arith}
use Rattle.rules.specs.Text.{text}
use Rattle.listing.proofs.PiecesLaws.{put_there}
use Rattle.pages.specs.Lines.{way_text}
use Rattle.pages.proofs.lines.put_direction.Goals as goal

pub returns-in-Raise : goal.returns-in-Raise
unfolding text way_text
returns-in-Raise c =
    rw c.in-Raise.is (put_there (record { free = omega arith; inside = omega (arith, c.requires) }) c.put_word.ensures)

pub returns-in-Lower : goal.returns-in-Lower
unfolding text way_text
returns-in-Lower c =
    rw c.in-Lower.is (put_there (record { free = omega arith; inside = omega (arith, c.requires) }) c.put_word-in-Lower.ensures)
