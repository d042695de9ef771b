-- Each word with the space before it.
use Rattle.rules.specs.Text.{text}
use Rattle.listing.specs.Pieces.{direction_piece}
use Rattle.listing.proofs.pieces.put_direction.Goals as goal

pub returns-in-Raise : goal.returns-in-Raise
unfolding text direction_piece
returns-in-Raise c = rw c.in-Raise.is c.put.ensures

pub returns-in-Lower : goal.returns-in-Lower
unfolding text direction_piece
returns-in-Lower c = rw c.in-Lower.is c.put-in-Lower.ensures
