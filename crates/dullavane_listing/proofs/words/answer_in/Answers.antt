-- The words as they stand; direction and standing by their numbers.
use Rattle.dullavane_listing.proofs.words.answer_in.Goals as goal

pub returns : goal.returns
returns c = rw (c.standing_in.ensures, c.direction_of.ensures)
