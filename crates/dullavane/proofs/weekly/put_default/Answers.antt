-- Two stores in a row are the two numbers.
use mathlib.Core.Path.{◌∙◌, ap₂}
use native.Mathlib.Omega.{arith}
use lib.IntN.{ℤ}
use lib.ListN.{set}
use mir.Syntax.{w64}
use mir.Facts.{to_z-of_z}
use borrow.Author.Rules.{sfits_of}
use Rattle.integers.proofs.Casts.{toZ_small}
use Rattle.dullavane.proofs.WeeklyLaws.{two_stores}
use Rattle.dullavane.proofs.weekly.put_default.Goals as goal

pub returns : goal.returns
returns c =
    let xs = c.args.reply.now in
    ap₂ (λ (x y : ℤ). set (set xs 0 x) 1 y) (toZ_small w64 {n = c.args.default.count} (omega arith)) (to_z-of_z {w = w64} (sfits_of c.struct_told-1.given.1.0.1))
    ∙ two_stores xs _ _ c.requires
