-- The digits of the number's size, and before them a space, with the sign of a number below zero; the sign first.
use lib.Dec.{lit≤}
use lib.IntN.{nat_abs}
use mir.Facts.{to_z-of_z}
use Rattle.integers.proofs.Tests.{leZ_true, leZ_false}
use Rattle.rules.specs.Text.{text, natural}
use Rattle.listing.specs.Pieces.{Room, Put}
use Rattle.listing.proofs.PiecesLaws.{room_less, room_after, put_before, digits_most, integer_below, integer_above}
use Rattle.listing.proofs.pieces.put_integer.Goals as goal
use Rattle.listing.proofs.pieces.put_integer.Goals.{After-put_digits-to, Start}

module _ (d : After-put_digits-to) where
  abbrev S : Start
  S = (goal.at.After-put_digits-to d).Start

  digits_put : Put (natural (nat_abs S.args.x)) S.args.at S.args.line.now d.put_digits-to.result d.put_digits-to.new.line
  digits_put = rw (simp (to_z-of_z, S.ranges.x) at d.size.ensures) at d.put_digits-to.ensures

  room_left : Room 2 d.put_digits-to.result d.put_digits-to.new.line
  room_left = room_after {k = 2} {j = 20} S.requires (digits_most 20 (nat_abs S.args.x)) digits_put

pub put-requires : goal.put-requires
put-requires c = room_less (lit≤ tt) (room_left (goal.at.put-requires c).After-put_digits-to)

pub returns-then-x-ge0 : goal.returns-then-x-ge0
unfolding text
returns-then-x-ge0 c =
    rw (integer_above (S (goal.at.returns-then-x-ge0 c).After-put_digits-to).args.x (leZ_true (simp (to_z-of_z, (S (goal.at.returns-then-x-ge0 c).After-put_digits-to).ranges.x) at c.if-x-ge0.true))) (put_before (digits_put (goal.at.returns-then-x-ge0 c).After-put_digits-to) c.put.ensures)

pub put-requires-2 : goal.put-requires-2
put-requires-2 c = room_left (goal.at.put-requires-2 c).After-put_digits-to

pub returns : goal.returns
unfolding text
returns c =
    rw (integer_below (S (goal.at.returns c).After-put_digits-to).args.x (leZ_false (simp (to_z-of_z, (S (goal.at.returns c).After-put_digits-to).ranges.x) at c.if-x-ge0.false))) (put_before (digits_put (goal.at.returns c).After-put_digits-to) c.put-2.ensures)
