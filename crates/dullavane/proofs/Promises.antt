-- Laws of the definitions in specs/Promises.antt.
use Rattle.std.specs.Prelude.{Result, Ok, Err}
use Rattle.rules.specs.declared.Refusal.{Refusal}
use mathlib.Core.Path.{◌≡◌, refl, sym, ◌∙◌}
use mathlib.Core.List.{List}
use Prim.Native.Nat.{ℕ, ◌≤◌, ◌<◌}
use borrow.Author.Tests.{le-leb, lt-leb}
use lib.ListN.{length}
use Rattle.rules.specs.declared.Refusal.TheVariants.{TooShort}
use Rattle.rules.specs.Refusals.{Reply, taken, refused, located, at}
use Rattle.rules.specs.Contents.{Counts, contents}
use Rattle.interval.specs.declared.Tally.{Tally}
use Rattle.interval.specs.Lent.{Lent}
use Rattle.interval.specs.Calls.{fresh, opened, left}
use Rattle.interval.proofs.Promises.{settings_only, frequency_only, unit_only, requirement_only}
use Rattle.dullavane.proofs.Called.{called_only, alone_only}
use Rattle.dullavane.specs.Words.{tally_words, with_words, held, said, reply_said, told, words_after}
use Rattle.dullavane.specs.Promises.{ContentsCalled, FrequencyCalled, RequirementCalled, SettingsCalled, UnitCalled}

pub dullavane_contents_only : {part ws : List ℕ} {r r₂ : ℕ} {ws' ws₂ : List ℕ} → ContentsCalled part ws r ws' → ContentsCalled part ws r₂ ws₂ →
    (r ≡ r₂) × (ws' ≡ ws₂)
dullavane_contents_only a b = (a.reply ∙ sym b.reply, a.tally ∙ sym b.tally)

-- from the room for a tally, and from what the call of `interval` starts
abbrev pub opened_reply : Result Tally Refusal → Reply Tally
opened_reply (Ok t) = taken t
opened_reply (Err r) = refused r

module _ (part ws : List ℕ) where
  pub contents_short : length ws < tally_words → {r : ℕ} → r ≡ said (located 0 TooShort) → ContentsCalled part ws r ws
  contents_short short e = let l = lt-leb tally_words (length ws) short in record { reply = e ∙ rw l; tally = rw l }

  pub contents_opened : tally_words ≤ length ws → (opening : Result Tally Refusal) {r : ℕ} {ws' : List ℕ} → opening ≡ opened (contents part) →
      r ≡ reply_said (at 0 (opened_reply opening)) → ws' ≡ left with_words (opened_reply opening) ws → ContentsCalled part ws r ws'
  contents_opened long opening e told left_in =
      let l = le-leb tally_words (length ws) long in
      record { reply = told ∙ rw (e, l) (same_said (contents part)); tally = left_in ∙ rw (e, l) (same_words (contents part)) }
    where
      same_said : (y : Reply Counts) → reply_said (at 0 (opened_reply (opened y))) ≡ reply_said (at 0 y)
      same_said (taken c) = refl
      same_said (refused r) = refl

      same_words : (y : Reply Counts) → left with_words (opened_reply (opened y)) ws ≡ left (λ c. with_words (fresh c)) y ws
      same_words (taken c) = refl
      same_words (refused r) = refl

pub dullavane_settings_only : {ws part : List ℕ} {r r₂ : ℕ} {ws' ws₂ : List ℕ} → SettingsCalled ws part r ws' → SettingsCalled ws part r₂ ws₂ →
    (r ≡ r₂) × (ws' ≡ ws₂)
dullavane_settings_only {ws} a b =
    alone_only told words_after _ (λ t s s₂ x y. settings_only x y) ws _ _ _ _ (held ws) a.answer b.answer

pub dullavane_requirement_only : {ws part : List ℕ} {r r₂ : ℕ} {ws' ws₂ : List ℕ} → RequirementCalled ws part r ws' → RequirementCalled ws part r₂ ws₂ →
    (r ≡ r₂) × (ws' ≡ ws₂)
dullavane_requirement_only {ws} a b =
    alone_only told words_after _ (λ t s s₂ x y. requirement_only x y) ws _ _ _ _ (held ws) a.answer b.answer

-- ---- calls with lent lists
module _ {ws part : List ℕ} {l : Lent} {r r₂ : ℕ} {ws' ws₂ : List ℕ} {l' l₂ : Lent} where
  pub dullavane_frequency_only : FrequencyCalled ws part l r ws' l' → FrequencyCalled ws part l r₂ ws₂ l₂ → (r ≡ r₂) × (ws' ≡ ws₂) × (l' ≡ l₂)
  dullavane_frequency_only a b =
      called_only told words_after _ _ (l' ≡ l) (l₂ ≡ l) (l' ≡ l₂) (λ t s s₂ x y. frequency_only x y) (λ x y. x ∙ sym y)
      ws _ _ _ _ (held ws) a.answer b.answer

  pub dullavane_unit_only : UnitCalled ws part l r ws' l' → UnitCalled ws part l r₂ ws₂ l₂ → (r ≡ r₂) × (ws' ≡ ws₂) × (l' ≡ l₂)
  dullavane_unit_only a b =
      called_only told words_after _ _ (l' ≡ l) (l₂ ≡ l) (l' ≡ l₂) (λ t s s₂ x y. unit_only x y) (λ x y. x ∙ sym y)
      ws _ _ _ _ (held ws) a.answer b.answer
