-- Each word with the space before it.
use Rattle.rules.specs.Text.{text}
use Rattle.listing.proofs.pieces.put_standing.Goals as goal

pub returns-in-Live : goal.returns-in-Live
unfolding text
returns-in-Live c = rw c.in-Live.is c.put.ensures

pub returns-in-Default : goal.returns-in-Default
unfolding text
returns-in-Default c = rw c.in-Default.is c.put-in-Default.ensures
