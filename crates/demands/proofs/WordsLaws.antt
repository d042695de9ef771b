-- Laws of the tally's words and of the one form of promise that all C calls have (crates/dullavane, Words and Called).
use Rattle.std.specs.Prelude.{Result, Ok, Err, ⊤}
use mathlib.Core.Path.{◌≡◌, refl, sym, ◌∙◌, subst}
use mathlib.Core.List.{List}
use Prim.Native.Nat.{ℕ, ◌<◌}
use native.Mathlib.Omega.{arith}
use lib.ListN.{length}
use borrow.Author.Tests.{le-leb, lt-ltb}
use Rattle.rules.specs.declared.Located.{Located}
use Rattle.rules.specs.declared.Reason.TheVariants.{UnreliableRegion, BadUnit, NoGoodUnit}
use Rattle.rules.specs.declared.Standing.{Standing}
use Rattle.rules.specs.declared.Standing.TheVariants.{Live, Default}
use Rattle.rules.specs.Refusals.{Reply, taken, refused}
use Rattle.interval.specs.declared.Tally.{Tally}
use Rattle.interval.specs.declared.Step.{Step}
use Rattle.dullavane.specs.Words.{tally_words, with_words, held, Narrow, taking_said, told}
use Rattle.dullavane.proofs.WordsLaws.{held_by, narrow_but, said_some}
use Rattle.dullavane.specs.Called.{Stepped, Called}
use Rattle.dullavane.specs.Asked.{standing_number}
use Rattle.demands.specs.WordsLaws.{standing_of}

-- ---- no refusal is told as 0, so 0 is told of a record taken alone
pub told_taken : (s : Step) → told s ≡ 0 → s.taking ≡ Ok tt
told_taken s e = go s.taking e
  where
    go : (x : Result ⊤ Located) → taking_said x ≡ 0 → x ≡ Ok tt
    go (Ok tt) e = refl
    go (Err why) e = absurd (omega (arith, said_some why))

pub told_refused : (s : Step) → 0 < told s → (why : Located) × (s.taking ≡ Err why)
told_refused s h = go s.taking h
  where
    go : (x : Result ⊤ Located) → 0 < taking_said x → (why : Located) × (x ≡ Err why)
    go (Ok tt) h = absurd (omega arith)
    go (Err why) h = (why, refl)

-- ---- the words of a tally within its widths hold it
pub words_hold : (t : Tally) (ws : List ℕ) → Narrow (with_words t ws) → held (with_words t ws) ≡ taken t
words_hold t ws h =
    let us = with_words t ws in
    let fit = sym (narrow_but us h.units h.requirements h.records h.smoothing h.limit) ∙ lt-ltb _ _ h.percent in
    held_by us (le-leb tally_words (length us) (omega arith)) fit

-- ---- one law for all calls, over what the call below promises and what stays where there is no tally to call it on
module _ {S : Type 0} (told : S → ℕ) (after : S → List ℕ → List ℕ) (Call : Tally → S → Type 0) (Kept : Type 0) where
  -- a call on words that hold a tally is the call below on that tally
  pub is_stepped :
      {y : Reply Tally} {t : Tally} {ws ws' : List ℕ} {r : ℕ} →
      y ≡ taken t → Called told after Call Kept y ws r ws' → Stepped told after (Call t) ws r ws'
  unfolding Called
  is_stepped {ws = ws} {ws' = ws'} {r = r} e c = subst (λ (z : Reply Tally). Called told after Call Kept z ws r ws') e c

  -- a call that answers a number leaves the words and all else that is lent as it was, if the call below does
  pub refused_keeps :
      (Same : Type 0) (ws : List ℕ) → ((t : Tally) (s : S) → Call t s → 0 < told s → (after s ws ≡ ws) × Same) → (Kept → Same) →
      (y : Reply Tally) {r : ℕ} {ws' : List ℕ} → Called told after Call Kept y ws r ws' → 0 < r → (ws' ≡ ws) × Same
  unfolding Called
  refused_keeps Same ws by_call by_keeping (taken t) c h =
      let same = by_call t c.step c.call (omega (arith, c.reply)) in
      (c.words ∙ same.0, same.1)
  refused_keeps Same ws by_call by_keeping (refused why) c h = (c.words, by_keeping c.kept)

-- what else the call below says of its answer
pub stepped_by :
    {S : Type 0} {told : S → ℕ} {after : S → List ℕ → List ℕ} {Call Call₂ : S → Type 0} {ws ws' : List ℕ} {r : ℕ} →
    ((s : S) → Call s → Call₂ s) → Stepped told after Call ws r ws' → Stepped told after Call₂ ws r ws'
stepped_by f c = record { step = c.step; call = f c.step c.call; reply = c.reply; words = c.words }

pub standing_known : (s : Standing) → standing_of (standing_number s) ≡ s
standing_known Live = refl
standing_known (Default UnreliableRegion) = refl
standing_known (Default BadUnit) = refl
standing_known (Default NoGoodUnit) = refl
