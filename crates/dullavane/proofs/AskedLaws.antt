-- Laws of the definitions in specs/Asked.antt.
use mathlib.Core.Path.{◌≡◌, refl, sym, ◌∙◌, ap}
use mathlib.Core.Bool.{Bool, true, false, ◌&&◌}
use mathlib.Core.List.{List, [], ◌∷◌}
use Prim.Native.Nat.{ℕ, zero, suc, ◌≤◌, ◌<◌}
use native.Mathlib.Omega.{arith}
use lib.Dec.{ltb}
use lib.ListN.{length, set, drop}
use borrow.Author.Tests.{ltb-true}
use Rattle.integers.specs.Sums.{both}
use Rattle.rules.specs.declared.Direction.{Direction}
use Rattle.rules.specs.declared.Direction.TheVariants.{Lower}
use Rattle.rules.specs.declared.Refusal.{Refusal}
use Rattle.rules.specs.declared.Refusal.TheVariants.{WrongState, TooShort}
use Rattle.rules.specs.Refusals.{Reply, taken, refused, unless, ◌>>=◌}
use Rattle.interval.specs.declared.Tally.{Tally}
use Rattle.interval.specs.Tally.{in_range, answer_turn}
use Rattle.interval.specs.Lent.{Lent}
use Rattle.answer.proofs.RosterLaws.{member_only}
use Rattle.dullavane.specs.Words.{held, reply_number, Held}
use Rattle.dullavane.proofs.WordsLaws.{held_means}
use Rattle.dullavane.proofs.Called.{alone_only}
use Rattle.dullavane.specs.Asked.{MemberCalled, held_or_none, asked_narrow, direction_of, in_turn, asked_tally, row_after, row_number}

pub dullavane_member_only : {ts : List ℕ} {row direction set : ℕ} {l : Lent} {ws : List ℕ} {r r₂ : ℕ} {ws' ws₂ : List ℕ} →
    MemberCalled ts row direction set l ws r ws' → MemberCalled ts row direction set l ws r₂ ws₂ → (r ≡ r₂) × (ws' ≡ ws₂)
dullavane_member_only {ws = ws} a b =
    alone_only row_number row_after _ (λ t s s₂ x y. member_only x y) ws _ _ _ _ _ a.answer b.answer

pub asked_refusal_only : (ws : List ℕ) (narrow long : Bool) {r r₂ : ℕ} → r ≡ reply_number (asked_tally ws narrow long) →
    r₂ ≡ reply_number (asked_tally ws narrow long) → r ≡ r₂
asked_refusal_only ws narrow long a b = a ∙ sym b

pub tally_held_only : (ws : List ℕ) {r r₂ : Tally} → r ≡ held_or_none (held ws) → r₂ ≡ held_or_none (held ws) → r ≡ r₂
tally_held_only ws a b = a ∙ sym b

pub direction_of_only : (n : ℕ) {r r₂ : Direction} → r ≡ direction_of n → r₂ ≡ direction_of n → r ≡ r₂
direction_of_only n a b = a ∙ sym b

-- ---- laws
-- a tally that can be asked: the words hold it, what it is asked by is within its width, and the words for the answer are long enough
pub record AskedTally (ws : List ℕ) (narrow long : Bool) : Type 0 where
  pub in_words : Held ws
  pub as_held : asked_tally ws narrow long ≡ held ws
  pub narrow_so : narrow ≡ true
  pub long_so : long ≡ true

pub asked_means : (ws : List ℕ) (narrow long : Bool) {r : ℕ} → r ≡ reply_number (asked_tally ws narrow long) → r ≡ 0 → AskedTally ws narrow long
unfolding asked_tally in_turn
asked_means ws narrow long e none = go (held ws) refl (sym e ∙ none)
  where
    last : (turn narrow long : Bool) (t : Tally) →
        let y = unless turn WrongState (unless narrow WrongState (unless long TooShort (taken t))) in reply_number y ≡ 0 →
        (y ≡ taken t) × (narrow ≡ true) × (long ≡ true)
    last true true true t e = (refl, refl, refl)
    last true true false t e = absurd (omega arith)
    last true false long t e = absurd (omega arith)
    last false narrow long t e = absurd (omega arith)

    go : (y : Reply Tally) → held ws ≡ y → reply_number (y >>= in_turn narrow long) ≡ 0 → AskedTally ws narrow long
    go (taken t) h e =
        let l = last (in_range t && answer_turn t) narrow long t e in
        record { in_words = held_means ws (ap reply_number (sym h)) refl; as_held = rw h l.0; narrow_so = l.1; long_so = l.2 }
    go (refused r) h e =
        let t = (held_means ws (ap reply_number (sym h)) e).tally in
        let z : ◌≡◌ {A = ℕ} 0 1 = cc in
        absurd (omega arith)

-- by what the tests say of the tally that the words hold
pub asked_by : (ws : List ℕ) (narrow long : Bool) {t : Tally} {x f m : Bool} →
    held ws ≡ taken t → (in_range t && answer_turn t) ≡ x → narrow ≡ f → long ≡ m →
    asked_tally ws narrow long ≡ unless x WrongState (unless f WrongState (unless m TooShort (taken t)))
unfolding asked_tally in_turn
asked_by ws narrow long h a b d = rw (h, a, b, d)

-- where the words hold no tally, that is the answer
pub asked_unheld : (ws : List ℕ) (narrow long : Bool) {r : Refusal} → held ws ≡ refused r → asked_tally ws narrow long ≡ refused r
unfolding asked_tally
asked_unheld ws narrow long h = rw h

pub record AskedNarrow (row direction set : ℕ) : Type 0 where
  pub row_fits : row < 65_536
  pub set_fits : set < 256

pub asked_fits : (row direction set : ℕ) → asked_narrow row direction set ≡ true → AskedNarrow row direction set
asked_fits row direction set e =
    let a = both (ltb row 65_536) (ltb direction 2 && ltb set 256) e in
    let b = both (ltb direction 2) (ltb set 256) a.1 in
    record { row_fits = ltb-true _ _ a.0; set_fits = ltb-true _ _ b.1 }

-- three stores in a row
pub three_stores : {A : Type 0} (xs : List A) (a b c : A) → 3 ≤ length xs → set (set (set xs 0 a) 1 b) 2 c ≡ a ∷ b ∷ c ∷ drop 3 xs
three_stores (x ∷ y ∷ z ∷ xs) a b c long = refl
three_stores (x ∷ y ∷ []) a b c long = absurd (omega arith)
three_stores (x ∷ []) a b c long = absurd (omega arith)
three_stores [] a b c long = absurd (omega arith)

pub lower_of : (n : ℕ) → (n ≡ 0 → ⊥) → Lower ≡ direction_of n
lower_of zero h = absurd (h refl)
lower_of (suc n) h = refl
