-- The digits of what is left of the number belong before those that are put; each turn puts four.
use Rattle.listing.proofs.PiecesLaws.{Spelt}
use Rattle.listing.proofs.pieces.put_digits.Given as goal

abbrev pub invariant-loop-rest : goal.invariant-loop-rest
invariant-loop-rest l = Spelt l.n l.at l.initial.line l.rest l.to l.line

abbrev pub decreases-loop-rest : goal.decreases-loop-rest
decreases-loop-rest l = l.rest
