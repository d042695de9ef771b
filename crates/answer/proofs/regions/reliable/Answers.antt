-- By the figure.
use mathlib.Core.Path.{◌∙◌, ap}
use lib.IntN.{ℤ, pos}
use lib.Signed.{lt_z}
use borrow.Author.Rules.{sfits_of}
use mir.Syntax.{w64}
use mir.Facts.{to_z-of_z}
use mathlib.Core.List.{[]}
use Rattle.answer.specs.Asked.{lent_members}
use Rattle.answer.proofs.MadeLaws.{reliable_is}
use Rattle.answer.proofs.regions.reliable.Goals as goal

pub returns : goal.returns
returns c =
    let a = c.args in
    ap (λ (z : ℤ). lt_z (pos 0) z) (to_z-of_z {w = w64} (sfits_of c.figure_of.type_inv) ∙ c.figure_of.ensures)
    ∙ reliable_is (lent_members a.figures.now [] []) a.direction a.region
