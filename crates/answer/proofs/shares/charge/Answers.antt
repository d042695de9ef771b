-- The share refuses nothing: its limits are kept.
use mathlib.Core.Path.{sym}
use lib.Seq.{length-take-le}
use Rattle.answer.proofs.SharesLaws.{charged}
use Rattle.answer.proofs.shares.charge.Goals as goal

pub slice_bounds-share_unhelpful-end : goal.slice_bounds-share_unhelpful-end
slice_bounds-share_unhelpful-end c = sym (length-take-le c.args.n c.args.values.now c.requires.0)

pub returns : goal.returns
returns c =
    charged c.requires.1 c.share_unhelpful.ensures
