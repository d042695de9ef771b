-- The share refuses nothing: its limits are kept on both sides.
use mathlib.Core.Path.{sym}
use lib.Seq.{length-take-le}
use Rattle.answer.proofs.SharesLaws.{signs_shared}
use Rattle.answer.proofs.shares.share_both.Goals as goal

pub slice_bounds-share_signs-end : goal.slice_bounds-share_signs-end
slice_bounds-share_signs-end c = sym (length-take-le c.args.n c.args.values.now c.requires.0)

pub returns : goal.returns
returns c =
    signs_shared c.requires.1 c.requires.2 c.share_signs.ensures
