-- The place is the next record's.
use Rattle.interval.proofs.steps.refuse.Goals as goal

pub returns : goal.returns
returns c = rw (c.locate.ensures, c.next_place-place.ensures)
