-- A point of the wrong sign gives 0, any other the larger of the two sums.
use mathlib.Core.Path.{◌≡◌, sym, ◌∙◌, ap, ap₂}
use Prim.Native.Nat.{max}
use borrow.Author.Rules.{sfits_of}
use lib.IntN.{ℤ, pos}
use lib.Signed.{lt_z}
use mir.Facts.{to_z-of_z}
use Rattle.integers.specs.Pairs.{gain, loss}
use Rattle.integers.specs.Sums.{sum}
use Rattle.rules.specs.Quantities.{regions}
use Rattle.rules.specs.Book.{toward}
use mathlib.Core.List.{[]}
use Rattle.answer.specs.Asked.{lent}
use Rattle.answer.specs.Rcr.{weighed_part}
use Rattle.answer.proofs.points.response_at.Goals as goal
use Rattle.answer.proofs.points.response_at.Goals.{After-right_sign, Start}

abbrev S : After-right_sign → Start
S c = (goal.at.After-right_sign c).Start

signed :
    (c : After-right_sign) → lt_z (pos 0)
    (toward (S c).args.direction (sum regions
    (weighed_part (S c).args.set (lent (S c).args.measures.now (S c).args.sums.now (S c).args.figures.now [] []) (S c).args.t))) ≡
    c.right_sign.result
signed c =
    ap (λ (z : ℤ). lt_z (pos 0) (toward (S c).args.direction z)) (sym c.sums_at-found.ensures.weighed)
    ∙ sym (rw (to_z-of_z (sfits_of c.type_inv.found.0.1)) at c.right_sign.ensures)

pub returns-then-not-right_sign : goal.returns-then-not-right_sign
returns-then-not-right_sign c = rw (signed (goal.at.returns-then-not-right_sign c).After-right_sign ∙ c.if-not-right_sign.true)

pub returns : goal.returns
returns c =
    let sums = c.sums_at-found.ensures in
    let positive = rw (to_z-of_z (sfits_of (goal.at.returns c).After-right_sign.type_inv.found.1.0.1)) at c.above.ensures in
    let negative = rw (to_z-of_z (sfits_of (goal.at.returns c).After-right_sign.type_inv.found.1.1.0.1)) at c.below.ensures in
    rw (signed (goal.at.returns c).After-right_sign ∙ c.if-not-right_sign.false)
    (c.larger.ensures ∙ ap₂ max (positive ∙ ap gain sums.positive) (negative ∙ ap loss sums.negative))
