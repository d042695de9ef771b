-- Laws of the definitions in specs/Promises.antt.
use mathlib.Core.Path.{◌≡◌, sym, ◌∙◌}
use mathlib.Core.List.{List}
use Prim.Native.Nat.{ℕ}
use lib.IntN.{ℤ}
use Rattle.share_c.specs.Promises.{Told}

pub share_amounts_only : {T : ℕ} {ws : List ℕ} {old new new' : List ℤ} {before r r' after after' : ℕ} → Told T ws old before r new after →
    Told T ws old before r' new' after' → (r ≡ r') × (new ≡ new') × (after ≡ after')
share_amounts_only a b =
    (a.reply ∙ sym b.reply, a.amounts ∙ sym b.amounts, a.unplaced ∙ sym b.unplaced)
