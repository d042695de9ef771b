-- Laws of the definitions in specs/Called.antt.
use mathlib.Core.Path.{◌≡◌, refl, sym, ◌∙◌, ap, subst⁻¹}
use mathlib.Core.List.{List}
use Prim.Native.Nat.{ℕ}
use Rattle.rules.specs.declared.Refusal.{Refusal}
use Rattle.rules.specs.Refusals.{Reply, taken, refused, number}
use Rattle.interval.specs.declared.Tally.{Tally}
use Rattle.dullavane.specs.Words.{reply_number}
use Rattle.dullavane.specs.Called.{Called}

module _ {S : Type 0} (told : S → ℕ) (after : S → List ℕ → List ℕ) where
  -- by what the words hold
  module _ (Call : Tally → S → Type 0) (Kept : Type 0) (ws : List ℕ) where
    pub was_called : {y : Reply Tally} {t : Tally} {s : S} {r : ℕ} {ws' : List ℕ} → y ≡ taken t → Call t s → (r ≡ told s) × (ws' ≡ after s ws) →
        Called told after Call Kept y ws r ws'
    unfolding Called
    was_called {s = s} {r = r} {ws' = ws'} e call answered =
        subst⁻¹ (λ (z : Reply Tally). Called told after Call Kept z ws r ws') e (record { step = s; call = call; reply = answered.0; words = answered.1 })

    pub was_refused : (y : Reply Tally) {r : ℕ} → r ≡ reply_number y → (r ≡ 0 → ⊥) → Kept → Called told after Call Kept y ws r ws
    unfolding Called
    was_refused (taken t) e some kept = absurd (some e)
    was_refused (refused refusal) e some kept = record { reply = e; words = refl; kept = kept }

    pub was_unheld : {y : Reply Tally} {x : Refusal} {r : ℕ} → y ≡ refused x → r ≡ number x → Kept → Called told after Call Kept y ws r ws
    unfolding Called
    was_unheld {r = r} e told_so kept =
        subst⁻¹ (λ (z : Reply Tally). Called told after Call Kept z ws r ws) e (record { reply = told_so; words = refl; kept = kept })

  -- any two answers that such a promise allows are equal, and with them what else is lent, if those of the call below are
  module _ (Call Call₂ : Tally → S → Type 0) (Kept Kept₂ Same : Type 0) (by_call : (t : Tally) (s s₂ : S) → Call t s → Call₂ t s₂ → (s ≡ s₂) × Same)
      (by_keeping : Kept → Kept₂ → Same) where
    pub called_only : (ws : List ℕ) (r r₂ : ℕ) (ws' ws₂ : List ℕ) (y : Reply Tally) → Called told after Call Kept y ws r ws' →
        Called told after Call₂ Kept₂ y ws r₂ ws₂ → (r ≡ r₂) × (ws' ≡ ws₂) × Same
    unfolding Called
    called_only ws r r₂ ws' ws₂ (taken t) a b =
        let (e, same) = by_call t a.step b.step a.call b.call in
        (a.reply ∙ ap told e ∙ sym b.reply, a.words ∙ ap (λ (s : S). after s ws) e ∙ sym b.words, same)
    called_only ws r r₂ ws' ws₂ (refused refusal) a b =
        (a.reply ∙ sym b.reply, a.words ∙ sym b.words, by_keeping a.kept b.kept)

  -- where nothing else is lent
  module _ (Call : Tally → S → Type 0) (only : (t : Tally) (s s₂ : S) → Call t s → Call t s₂ → s ≡ s₂) where
    pub alone_only : (ws : List ℕ) (r r₂ : ℕ) (ws' ws₂ : List ℕ) (y : Reply Tally) → Called told after Call (Unit {0}) y ws r ws' →
        Called told after Call (Unit {0}) y ws r₂ ws₂ → (r ≡ r₂) × (ws' ≡ ws₂)
    alone_only ws r r₂ ws' ws₂ y a b =
        let same = called_only Call Call (Unit {0}) (Unit {0}) (Unit {0}) (λ t s s₂ p q. (only t s s₂ p q, tt)) (λ p q. tt) ws r r₂ ws' ws₂ y a b in
        (same.0, same.1)
