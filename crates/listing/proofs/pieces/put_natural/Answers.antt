-- The digits, and a space before them.
use Rattle.rules.specs.Text.{text}
use Rattle.listing.proofs.PiecesLaws.{room_after, put_before, digits_most}
use Rattle.listing.proofs.pieces.put_natural.Goals as goal

pub put-requires : goal.put-requires
put-requires c =
    room_after {k = 1} {j = 20} c.requires (digits_most 20 c.args.n) c.put_digits-to.ensures

pub returns : goal.returns
unfolding text
returns c =
    put_before c.put_digits-to.ensures c.put.ensures
