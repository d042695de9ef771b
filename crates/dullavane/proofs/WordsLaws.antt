-- Laws of the definitions in specs/Words.antt.
use Rattle.std.specs.Prelude.{Result, Ok, Err}
use mathlib.Core.Path.{◌≡◌, refl, sym, ◌∙◌, ap, subst}
use mathlib.Core.Bool.{Bool, true, false}
use mathlib.Core.List.{List, [], ◌∷◌}
use Prim.Native.Nat.{ℕ, ◌/◌, ◌%◌, ◌≤◌, ◌<◌}
use native.Mathlib.Omega.{arith}
use lib.Dec.{leb, ltb}
use lib.ListN.{length, get_or, set, drop}
use borrow.Author.Tests.{leb-true, ltb-true, lt-ltb}
use Rattle.integers.specs.Sums.{both}
use Rattle.rules.specs.declared.Refusal.TheVariants.{WrongState, TooShort}
use Rattle.rules.specs.declared.Refusal.{Refusal}
use Rattle.rules.specs.declared.Located.{Located}
use Rattle.rules.specs.Refusals.{Reply, taken, refused, number, point, located, unless}
use Rattle.laws.proofs.RefusalLaws.{tellable}
use Rattle.interval.specs.declared.Tally.{Tally}
use Rattle.dullavane.specs.Words.{Held, Narrow, handed, held, reply_number, said, tally_of, tally_words, with_words, words_fit}

pub narrowed : (ws : List ℕ) → words_fit ws ≡ true → Narrow ws
unfolding words_fit
narrowed ws e =
    let a = both _ _ e in
    let b = both _ _ a.1 in
    let c = both _ _ b.1 in
    let d = both _ _ c.1 in
    let f = both _ _ d.1 in
    record {
      units = ltb-true _ _ a.0;
      requirements = ltb-true _ _ b.0;
      records = ltb-true _ _ c.0;
      smoothing = ltb-true _ _ d.0;
      limit = ltb-true _ _ f.0;
      percent = ltb-true _ _ f.1;
    }

pub wide : (ws : List ℕ) → (Narrow ws → ⊥) → false ≡ words_fit ws
wide ws over = go (words_fit ws) refl
  where
    go : (x : Bool) → words_fit ws ≡ x → false ≡ words_fit ws
    go true e = absurd (over (narrowed ws e))
    go false e = sym e

-- past five tests the last word settles it
pub narrow_but : (ws : List ℕ) → get_or ws 0 0 < 65_536 → get_or ws 1 0 < 65_536 → get_or ws 2 0 < 65_536 → get_or ws 4 0 < 65_536 → get_or ws 5 0 < 256 →
    ltb (get_or ws 6 0) 256 ≡ words_fit ws
unfolding words_fit
narrow_but ws u q k s l = rw (lt-ltb _ _ u, lt-ltb _ _ q, lt-ltb _ _ k, lt-ltb _ _ s, lt-ltb _ _ l)

-- by the two tests
pub held_by : (ws : List ℕ) {x y : Bool} → leb tally_words (length ws) ≡ x → words_fit ws ≡ y →
    held ws ≡ unless x TooShort (unless y WrongState (taken (tally_of ws)))
unfolding held
held_by ws {x} l n =
    ap (λ (b : Bool). unless b TooShort (unless (words_fit ws) WrongState (taken (tally_of ws)))) l
    ∙ ap (λ (b : Bool). unless x TooShort (unless b WrongState (taken (tally_of ws)))) n

-- a reply, by what was handed on of it
abbrev pub handed_back : {A : Type 0} → Result A Refusal → Reply A
handed_back (Ok a) = taken a
handed_back (Err r) = refused r

back : {A : Type 0} (y : Reply A) → handed_back (handed y) ≡ y
back (taken a) = refl
back (refused r) = refl

pub was_handed : {A : Type 0} (y : Reply A) {x z : Result A Refusal} → x ≡ handed y → x ≡ z → y ≡ handed_back z
was_handed y e o = sym (back y) ∙ ap handed_back (sym e ∙ o)

-- known by the number of their refusal
pub held_means : (ws : List ℕ) {r : ℕ} → r ≡ reply_number (held ws) → r ≡ 0 → Held ws
held_means ws e none =
    go (leb tally_words (length ws)) (words_fit ws) refl refl (sym (ap reply_number (held_by ws refl refl)) ∙ sym e ∙ none)
  where
    go : (x y : Bool) → leb tally_words (length ws) ≡ x → words_fit ws ≡ y → reply_number (unless x TooShort (unless y WrongState (taken (tally_of ws)))) ≡ 0 →
        Held ws
    go true true l n e = record { long = leb-true _ _ l; narrow = narrowed ws n; tally = held_by ws l n }
    go true false l n e = absurd (omega arith)
    go false y l n e = absurd (omega arith)

-- ---- a refusal in one number: no refusal is told as 0, and the header's macros take it apart
pub said_some : (r : Located) → 0 < said r
said_some r = omega (arith, (tellable r.refusal).some)

pub record Apart (r : Located) : Type 0 where
  pub number_told : said r % 0x1_0000_0000 ≡ number r.refusal
  pub place_told : said r / 0x1_0000_0000 % 0x1_0000 ≡ r.place
  pub point_told : said r / 0x1_0000_0000_0000 ≡ point r.refusal

pub told_apart : (r : Located) → r.place < 0x1_0000 → Apart r
told_apart r h =
    let few = (tellable r.refusal).few in
    record { number_told = omega (arith, few, h); place_told = omega (arith, few, h); point_told = omega (arith, few, h) }

-- words that hold no tally have no place to tell
pub unheld_said : (ws : List ℕ) (x : Refusal) → held ws ≡ refused x → number x ≡ said (located 0 x)
unheld_said ws x e = go (leb tally_words (length ws)) (words_fit ws) (sym (held_by ws refl refl) ∙ e)
  where
    go : (a b : Bool) → unless a TooShort (unless b WrongState (taken (tally_of ws))) ≡ refused x → number x ≡ said (located 0 x)
    go true true f = let z : ◌≡◌ {A = ℕ} 0 1 = cc in absurd (omega arith)
    go true false f = let s : WrongState ≡ x = cc in subst (λ (x : Refusal). number x ≡ said (located 0 x)) s refl
    go false b f = let s : TooShort ≡ x = cc in subst (λ (x : Refusal). number x ≡ said (located 0 x)) s refl

-- ---- words that hold a tally are its words
pub held_is : (ws : List ℕ) (t : Tally) → held ws ≡ taken t → (t ≡ tally_of ws) × (tally_words ≤ length ws)
held_is ws t e = go (leb tally_words (length ws)) (words_fit ws) refl (sym (held_by ws refl refl) ∙ e)
  where
    go : (a b : Bool) → leb tally_words (length ws) ≡ a → unless a TooShort (unless b WrongState (taken (tally_of ws))) ≡ taken t →
        (t ≡ tally_of ws) × (tally_words ≤ length ws)
    go true true l f = (cc, leb-true _ _ l)
    go true false l f = let z : ◌≡◌ {A = ℕ} 0 1 = cc in absurd (omega arith)
    go false b l f = let z : ◌≡◌ {A = ℕ} 0 1 = cc in absurd (omega arith)

pub same_words : (ws : List ℕ) → tally_words ≤ length ws → with_words (tally_of ws) ws ≡ ws
same_words (a ∷ b ∷ c ∷ d ∷ e ∷ f ∷ g ∷ h ∷ ws) long = refl
same_words (a ∷ b ∷ c ∷ d ∷ e ∷ f ∷ g ∷ []) long = absurd (omega arith)
same_words (a ∷ b ∷ c ∷ d ∷ e ∷ f ∷ []) long = absurd (omega arith)
same_words (a ∷ b ∷ c ∷ d ∷ e ∷ []) long = absurd (omega arith)
same_words (a ∷ b ∷ c ∷ d ∷ []) long = absurd (omega arith)
same_words (a ∷ b ∷ c ∷ []) long = absurd (omega arith)
same_words (a ∷ b ∷ []) long = absurd (omega arith)
same_words (a ∷ []) long = absurd (omega arith)
same_words [] long = absurd (omega arith)

-- eight stores in a row
pub eight_stores : {A : Type 0} (ws : List A) (a b c d e f g h : A) → 8 ≤ length ws →
    set (set (set (set (set (set (set (set ws 0 a) 1 b) 2 c) 3 d) 4 e) 5 f) 6 g) 7 h ≡
    a ∷ b ∷ c ∷ d ∷ e ∷ f ∷ g ∷ h ∷ drop 8 ws
eight_stores (i ∷ j ∷ k ∷ l ∷ m ∷ n ∷ o ∷ p ∷ ws) a b c d e f g h long = refl
eight_stores (i ∷ j ∷ k ∷ l ∷ m ∷ n ∷ o ∷ []) a b c d e f g h long = absurd (omega arith)
eight_stores (i ∷ j ∷ k ∷ l ∷ m ∷ n ∷ []) a b c d e f g h long = absurd (omega arith)
eight_stores (i ∷ j ∷ k ∷ l ∷ m ∷ []) a b c d e f g h long = absurd (omega arith)
eight_stores (i ∷ j ∷ k ∷ l ∷ []) a b c d e f g h long = absurd (omega arith)
eight_stores (i ∷ j ∷ k ∷ []) a b c d e f g h long = absurd (omega arith)
eight_stores (i ∷ j ∷ []) a b c d e f g h long = absurd (omega arith)
eight_stores (i ∷ []) a b c d e f g h long = absurd (omega arith)
eight_stores [] a b c d e f g h long = absurd (omega arith)
