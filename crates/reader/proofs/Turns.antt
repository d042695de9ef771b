-- Any two answers that a promise allows are equal; and before the book's end taking the next record is the call of `chain`, so that its theorems speak of it.
use mathlib.Core.Path.{◌≡◌, sym, ◌∙◌}
use mathlib.Core.List.{List}
use Prim.Native.Nat.{ℕ, ◌<◌}
use native.Mathlib.Omega.{arith}
use Rattle.interval.specs.declared.Tally.{Tally}
use Rattle.interval.specs.declared.Step.{Step}
use Rattle.interval.specs.Tally.{book_end}
use Rattle.interval.specs.Lent.{Lent}
use Rattle.interval.proofs.Promises.{settings_only, frequency_only, unit_only, requirement_only}
use Rattle.chain.specs.BookRecords.{record_size}
use Rattle.chain.specs.Way.{Call}
use Rattle.reader.specs.Turns.{TurnPromise, counts_of}

pub size_only : (t : Tally) {r r' : ℕ} → r ≡ record_size t.units t.records → r' ≡ record_size t.units t.records → r ≡ r'
size_only t a b = a ∙ sym b

module _ {t : Tally} {p : List ℕ} {l : Lent} {r r₂ : Step} {l' l₂ : Lent} where
  pub turn_only : TurnPromise t p l r l' → TurnPromise t p l r₂ l₂ → (r ≡ r₂) × (l' ≡ l₂)
  turn_only (TurnPromise.as_settings _ a k) (TurnPromise.as_settings _ b m) = (settings_only a b, k ∙ sym m)
  turn_only (TurnPromise.as_settings h _ _) (TurnPromise.as_frequency f _ _) = absurd (omega (arith, h, f))
  turn_only (TurnPromise.as_settings h _ _) (TurnPromise.as_unit f _ _) = absurd (omega (arith, h, f))
  turn_only (TurnPromise.as_settings h _ _) (TurnPromise.as_requirement f _ _) = absurd (omega (arith, h, f))
  turn_only (TurnPromise.as_frequency h _ _) (TurnPromise.as_settings f _ _) = absurd (omega (arith, h, f))
  turn_only (TurnPromise.as_frequency _ _ a) (TurnPromise.as_frequency _ _ b) = frequency_only a b
  turn_only (TurnPromise.as_frequency _ h _) (TurnPromise.as_unit f _ _) = absurd (omega (arith, h, f))
  turn_only (TurnPromise.as_frequency _ h _) (TurnPromise.as_requirement f _ _) = absurd (omega (arith, h, f))
  turn_only (TurnPromise.as_unit h _ _) (TurnPromise.as_settings f _ _) = absurd (omega (arith, h, f))
  turn_only (TurnPromise.as_unit h _ _) (TurnPromise.as_frequency _ f _) = absurd (omega (arith, h, f))
  turn_only (TurnPromise.as_unit _ _ a) (TurnPromise.as_unit _ _ b) = unit_only a b
  turn_only (TurnPromise.as_unit _ h _) (TurnPromise.as_requirement f _ _) = absurd (omega (arith, h, f))
  turn_only (TurnPromise.as_requirement h _ _) (TurnPromise.as_settings f _ _) = absurd (omega (arith, h, f))
  turn_only (TurnPromise.as_requirement h _ _) (TurnPromise.as_frequency _ f _) = absurd (omega (arith, h, f))
  turn_only (TurnPromise.as_requirement h _ _) (TurnPromise.as_unit _ f _) = absurd (omega (arith, h, f))
  turn_only (TurnPromise.as_requirement _ a k) (TurnPromise.as_requirement _ b m) = (requirement_only a b, k ∙ sym m)

module _ {t : Tally} {p : List ℕ} {l : Lent} {r : Step} {l' : Lent} where
  pub turn_calls : t.records < book_end t → TurnPromise t p l r l' → Call (counts_of t) p t.records t l r l'
  turn_calls h (TurnPromise.as_settings f a k) = Call.for_settings (omega (arith, f)) a k
  turn_calls h (TurnPromise.as_frequency f g a) = Call.for_frequency f g a
  turn_calls h (TurnPromise.as_unit f g a) = Call.for_unit f g a
  turn_calls h (TurnPromise.as_requirement f a k) = Call.for_requirement f h a k

pub take_only :
    {t : Tally} {p : List ℕ} {l : Lent} {r r₂ : Step} {l' l₂ : Lent} → TurnPromise t p l r l' → TurnPromise t p l r₂ l₂ → (r ≡ r₂) × (l' ≡ l₂)
take_only a b = turn_only a b
