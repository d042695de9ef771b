-- Two stores in a row are the two words.
use mathlib.Core.Path.{◌∙◌, ap₂}
use Prim.Native.Nat.{ℕ}
use lib.ListN.{set}
use Rattle.dullavane.proofs.WeeklyLaws.{two_stores}
use Rattle.dullavane.proofs.verdicts.put_verdict.Goals as goal

pub returns : goal.returns
returns c =
    let xs = c.args.words.now in
    ap₂ (λ (x y : ℕ). set (set xs 0 x) 1 y) c.wrong_number-wrong.ensures c.member_number-member.ensures ∙ two_stores xs _ _ c.requires
