-- `share_amounts` meets its contract: the answer of `share` tells the definition's reply, and with it what is written.
use Rattle.std.specs.Prelude.{Result}
use mathlib.Core.Path.{◌≡◌, refl, sym, ◌∙◌, ap}
use mathlib.Core.List.{List}
use Prim.Native.Nat.{ℕ}
use lib.IntN.{ℤ}
use lib.ListN.{length}
use Rattle.rules.specs.declared.Refusal.{Refusal}
use Rattle.rules.specs.Refusals.{Reply, taken, refused}
use Rattle.rules.specs.Share.{share_reply}
use Rattle.share.specs.Promises.{credit, SharedOut}
use Rattle.share.proofs.Promises.{placed_means, refused_means}
use Rattle.share_c.specs.Promises.{Told, told, left}
use Rattle.share_c.proofs.share_amounts.Goals as goal

-- once the reply is known, the number and what is unplaced are
met : {T : ℕ} {ws : List ℕ} {old new : List ℤ} (before : ℕ) {r after : ℕ} {s : Result ℕ Refusal} → SharedOut credit T ws old s new → (y : Reply ℕ) →
    share_reply T ws (length old) ≡ y → r ≡ told y → after ≡ left y before → Told T ws old before r new after
met before o y e f g =
    record { reply = f ∙ ap told (sym e); amounts = o.amounts; unplaced = g ∙ ap (λ (z : Reply ℕ). left z before) (sym e) }

pub returns-in-Ok : goal.returns-in-Ok
returns-in-Ok c =
    let a = c.args in
    met a.unplaced.now c.share.ensures (taken c.in-Ok.rest)
    (placed_means (share_reply a.total a.weights.now (length a.amounts.now)) (sym c.in-Ok.is ∙ c.share.ensures.reply)) refl refl

pub returns-in-Err : goal.returns-in-Err
returns-in-Err c =
    let a = c.args in
    met a.unplaced.now c.share.ensures (refused c.in-Err.refusal)
    (refused_means (share_reply a.total a.weights.now (length a.amounts.now)) (sym c.in-Err.is ∙ c.share.ensures.reply))
    c.refusal_number.ensures refl
