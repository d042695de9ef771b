-- From the last amount to the standing; every amount fits, so that it is its own bits' number.
use lib.Dec.{lit≤}
use borrow.Author.Rules.{sfits_of}
use mir.Facts.{to_z-of_z}
use Rattle.rules.specs.Text.{integer}
use Rattle.listing.specs.Pieces.{Room, Put, after_space}
use Rattle.listing.proofs.PiecesLaws.{room_less, room_after, put_before, integer_most}
use Rattle.listing.specs.Lines.{amounts_words}
use Rattle.listing.proofs.lines.put_amounts.Goals as goal
use Rattle.listing.proofs.lines.put_amounts.Goals.{After-put_integer-at, After-put_integer-at-2, After-put_integer-at-3, After-put_integer-at-4, After-put_integer-at-5, Start}

abbrev S : After-put_integer-at → Start
S c = (goal.at.After-put_integer-at c).Start

-- each amount's place, from the one after it
abbrev P₂ : After-put_integer-at-2 → After-put_integer-at
P₂ c = (goal.at.After-put_integer-at-2 c).After-put_integer-at

abbrev P₃ : After-put_integer-at-3 → After-put_integer-at-2
P₃ c = (goal.at.After-put_integer-at-3 c).After-put_integer-at-2

abbrev P₄ : After-put_integer-at-4 → After-put_integer-at-3
P₄ c = (goal.at.After-put_integer-at-4 c).After-put_integer-at-3

abbrev P₅ : After-put_integer-at-5 → After-put_integer-at-4
P₅ c = (goal.at.After-put_integer-at-5 c).After-put_integer-at-4

unused_put : (c : After-put_integer-at) → Put (after_space (integer (S c).args.amounts.unused)) (S c).args.last (S c).args.line.now
    c.put_integer-at.result c.put_integer-at.new.line
unused_put c = rw (to_z-of_z (sfits_of c.type_inv.amounts.1.1.1.1.0.1)) at c.put_integer-at.ensures

unused_room : (c : After-put_integer-at) → Room 142 c.put_integer-at.result c.put_integer-at.new.line
unused_room c = room_after {k = 142} {j = 22} (S c).requires (integer_most (S c).args.amounts.unused) (unused_put c)

used_put : (c : After-put_integer-at-2) → Put (after_space (integer (S (P₂ c)).args.amounts.used))
    (P₂ c).put_integer-at.result (P₂ c).put_integer-at.new.line
    c.put_integer-at-2.result c.put_integer-at-2.new.line
used_put c = rw (to_z-of_z (sfits_of c.type_inv.amounts.1.1.1.0.1)) at c.put_integer-at-2.ensures

used_room : (c : After-put_integer-at-2) → Room 120 c.put_integer-at-2.result c.put_integer-at-2.new.line
used_room c = room_after {k = 120} {j = 22} (unused_room (P₂ c)) (integer_most (S (P₂ c)).args.amounts.used) (used_put c)

payment_put : (c : After-put_integer-at-3) → Put (after_space (integer (S (P₂ (P₃ c))).args.amounts.payment))
    (P₃ c).put_integer-at-2.result (P₃ c).put_integer-at-2.new.line
    c.put_integer-at-3.result c.put_integer-at-3.new.line
payment_put c = rw (to_z-of_z (sfits_of c.type_inv.amounts.1.1.0.1)) at c.put_integer-at-3.ensures

payment_room : (c : After-put_integer-at-3) → Room 98 c.put_integer-at-3.result c.put_integer-at-3.new.line
payment_room c = room_after {k = 98} {j = 22} (used_room (P₃ c)) (integer_most (S (P₂ (P₃ c))).args.amounts.payment) (payment_put c)

factor_put : (c : After-put_integer-at-4) → Put (after_space (integer (S (P₂ (P₃ (P₄ c)))).args.amounts.factor))
    (P₄ c).put_integer-at-3.result (P₄ c).put_integer-at-3.new.line
    c.put_integer-at-4.result c.put_integer-at-4.new.line
factor_put c = rw (to_z-of_z (sfits_of c.type_inv.amounts.1.0.1)) at c.put_integer-at-4.ensures

factor_room : (c : After-put_integer-at-4) → Room 76 c.put_integer-at-4.result c.put_integer-at-4.new.line
factor_room c = room_after {k = 76} {j = 22} (payment_room (P₄ c)) (integer_most (S (P₂ (P₃ (P₄ c)))).args.amounts.factor) (factor_put c)

performance_put : (c : After-put_integer-at-5) → Put (after_space (integer (S (P₂ (P₃ (P₄ (P₅ c))))).args.amounts.performance))
    (P₅ c).put_integer-at-4.result (P₅ c).put_integer-at-4.new.line
    c.put_integer-at-5.result c.put_integer-at-5.new.line
performance_put c = rw (to_z-of_z (sfits_of (P₅ c).type_inv.amounts.0.1)) at c.put_integer-at-5.ensures

performance_room : (c : After-put_integer-at-5) → Room 54 c.put_integer-at-5.result c.put_integer-at-5.new.line
performance_room c = room_after {k = 54} {j = 22} (factor_room (P₅ c))
    (integer_most (S (P₂ (P₃ (P₄ (P₅ c))))).args.amounts.performance) (performance_put c)

pub put_integer-at-requires-2 : goal.put_integer-at-requires-2
put_integer-at-requires-2 c = room_less (lit≤ tt) (unused_room (goal.at.put_integer-at-requires-2 c).After-put_integer-at)

pub put_integer-at-requires-3 : goal.put_integer-at-requires-3
put_integer-at-requires-3 c = room_less (lit≤ tt) (used_room (goal.at.put_integer-at-requires-3 c).After-put_integer-at-2)

pub put_integer-at-requires-4 : goal.put_integer-at-requires-4
put_integer-at-requires-4 c = room_less (lit≤ tt) (payment_room (goal.at.put_integer-at-requires-4 c).After-put_integer-at-3)

pub put_integer-at-requires-5 : goal.put_integer-at-requires-5
put_integer-at-requires-5 c = room_less (lit≤ tt) (factor_room (goal.at.put_integer-at-requires-5 c).After-put_integer-at-4)

pub put_standing-requires : goal.put_standing-requires
put_standing-requires c = room_less (lit≤ tt) (performance_room (goal.at.put_standing-requires c).After-put_integer-at-5)

pub returns : goal.returns
unfolding amounts_words
returns c =
    put_before (put_before (put_before (put_before (put_before (unused_put (goal.at.returns c).After-put_integer-at) (used_put (goal.at.returns c).After-put_integer-at-2)) (payment_put (goal.at.returns c).After-put_integer-at-3))
    (factor_put (goal.at.returns c).After-put_integer-at-4)) (performance_put (goal.at.returns c).After-put_integer-at-5)) c.put_standing.ensures
