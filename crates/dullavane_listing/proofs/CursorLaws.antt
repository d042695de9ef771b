-- Laws of the definitions in specs/Cursor.antt: what words that hold a cursor say, and that the words of a cursor hold it.
use mathlib.Core.Path.{◌≡◌, refl, sym, ◌∙◌, ap}
use mathlib.Core.Bool.{Bool, true, false}
use mathlib.Core.List.{List, [], ◌∷◌}
use Prim.Native.Nat.{ℕ, zero, suc, ◌≤◌, ◌<◌}
use native.Mathlib.Omega.{arith}
use lib.Dec.{leb, ltb}
use lib.ListN.{length, get_or, set, drop}
use borrow.Author.Tests.{leb-true, ltb-true, lt-ltb, le-leb}
use Rattle.integers.specs.Sums.{both}
use Rattle.rules.specs.declared.Direction.{Direction}
use Rattle.rules.specs.declared.Direction.TheVariants.{Raise, Lower}
use Rattle.rules.specs.declared.Reason.TheVariants.{UnreliableRegion, BadUnit, NoGoodUnit}
use Rattle.rules.specs.declared.Standing.{Standing}
use Rattle.rules.specs.declared.Standing.TheVariants.{Live, Default}
use Rattle.rules.specs.declared.Refusal.TheVariants.{WrongState, TooShort}
use Rattle.rules.specs.Refusals.{taken, unless}
use Rattle.answer.specs.declared.Answer.{Answer}
use Rattle.lister.specs.declared.Cursor.{Cursor}
use Rattle.lister.specs.declared.Cursor.TheVariants as at
use Rattle.dullavane.specs.Words.{reply_number}
use Rattle.dullavane.specs.Asked.{direction_of, standing_number}
use Rattle.dullavane_listing.specs.Cursor.{
  cursor_words,
  direction_number,
  no_answer,
  words_at,
  cursor_words_of,
  standing_in,
  answer_in,
  cursor_at,
  cursor_of,
  words_fit,
  cursor_held,
  Narrow,
  Held,
  AnswerFits,
  CursorFits,
}

-- ---- words within their widths
pub narrowed : (ws : List ℕ) → words_fit ws ≡ true → Narrow ws
unfolding words_fit
narrowed ws e =
    let a = both _ _ e in
    let b = both _ _ a.1 in
    let c = both _ _ b.1 in
    let d = both _ _ c.1 in
    let f = both _ _ d.1 in
    let g = both _ _ f.1 in
    let h = both _ _ g.1 in
    let i = both _ _ h.1 in
    record {
      stage = ltb-true _ _ a.0;
      requirement = ltb-true _ _ b.0;
      row = ltb-true _ _ c.0;
      before = ltb-true _ _ d.0;
      number = ltb-true _ _ f.0;
      direction = ltb-true _ _ g.0;
      set = ltb-true _ _ h.0;
      members = ltb-true _ _ i.0;
      standing = ltb-true _ _ i.1;
    }

pub wide : (ws : List ℕ) → (Narrow ws → ⊥) → false ≡ words_fit ws
wide ws over = go (words_fit ws) refl
  where
    go : (x : Bool) → words_fit ws ≡ x → false ≡ words_fit ws
    go true e = absurd (over (narrowed ws e))
    go false e = sym e

-- past eight tests the last word settles it
pub narrow_but : (ws : List ℕ) → get_or ws 1 0 < 4 → get_or ws 2 0 < 65_536 → get_or ws 3 0 < 65_536 → get_or ws 4 0 < 65_536 → get_or ws 5 0 < 65_536 →
    get_or ws 6 0 < 2 → get_or ws 7 0 < 256 → get_or ws 8 0 < 65_536 → ltb (get_or ws 15 0) 4 ≡ words_fit ws
unfolding words_fit
narrow_but ws a b c d f g h i =
    rw (lt-ltb _ _ a, lt-ltb _ _ b, lt-ltb _ _ c, lt-ltb _ _ d, lt-ltb _ _ f, lt-ltb _ _ g, lt-ltb _ _ h, lt-ltb _ _ i)

all_narrow : (ws : List ℕ) → Narrow ws → words_fit ws ≡ true
all_narrow ws n =
    sym (narrow_but ws n.stage n.requirement n.row n.before n.number n.direction n.set n.members) ∙ lt-ltb _ _ n.standing

-- ---- the cursor that words hold, by the two tests
pub held_by : (ws : List ℕ) {x y : Bool} → leb cursor_words (length ws) ≡ x → words_fit ws ≡ y →
    cursor_held ws ≡ unless x TooShort (unless y WrongState (taken (cursor_of ws)))
unfolding cursor_held
held_by ws {x} l n =
    ap (λ (b : Bool). unless b TooShort (unless (words_fit ws) WrongState (taken (cursor_of ws)))) l
    ∙ ap (λ (b : Bool). unless x TooShort (unless b WrongState (taken (cursor_of ws)))) n

-- known by the number of their refusal
pub held_means : (ws : List ℕ) {r : ℕ} → r ≡ reply_number (cursor_held ws) → r ≡ 0 → Held ws
held_means ws e none =
    go (leb cursor_words (length ws)) (words_fit ws) refl refl (sym (ap reply_number (held_by ws refl refl)) ∙ sym e ∙ none)
  where
    go : (x y : Bool) → leb cursor_words (length ws) ≡ x → words_fit ws ≡ y →
        reply_number (unless x TooShort (unless y WrongState (taken (cursor_of ws)))) ≡ 0 → Held ws
    go true true l n e = record { long = leb-true _ _ l; narrow = narrowed ws n; cursor = held_by ws l n }
    go true false l n e = absurd (omega arith)
    go false y l n e = absurd (omega arith)

-- words that hold a cursor hold the one that they say
pub held_at_once : (ws : List ℕ) {at : Cursor} → cursor_held ws ≡ taken at → at ≡ cursor_of ws
held_at_once ws {at} e = go (leb cursor_words (length ws)) (words_fit ws) (sym (held_by ws refl refl) ∙ e)
  where
    go : (x y : Bool) → unless x TooShort (unless y WrongState (taken (cursor_of ws))) ≡ taken at → at ≡ cursor_of ws
    go true true f = cc
    go true false f = let z : ◌≡◌ {A = ℕ} 0 1 = cc in absurd (omega arith)
    go false y f = let z : ◌≡◌ {A = ℕ} 0 1 = cc in absurd (omega arith)

-- ---- the numbers past those that are named
pub last_standing : (n : ℕ) → (n ≡ 0 → ⊥) → (n ≡ 1 → ⊥) → (n ≡ 2 → ⊥) → Default NoGoodUnit ≡ standing_in n
last_standing zero a b c = absurd (a refl)
last_standing (suc zero) a b c = absurd (b refl)
last_standing (suc (suc zero)) a b c = absurd (c refl)
last_standing (suc (suc (suc n))) a b c = refl

pub last_stage : (n : ℕ) (ws : List ℕ) → (n ≡ 0 → ⊥) → (n ≡ 1 → ⊥) → (n ≡ 2 → ⊥) →
    at.Members (get_or ws 2 0) (answer_in ws) (get_or ws 3 0) (get_or ws 4 0) ≡ cursor_at n ws
last_stage zero ws a b c = absurd (a refl)
last_stage (suc zero) ws a b c = absurd (b refl)
last_stage (suc (suc zero)) ws a b c = absurd (c refl)
last_stage (suc (suc (suc n))) ws a b c = refl

-- ---- a store in the first word, and sixteen in a row
pub first_store : (xs : List ℕ) (a : ℕ) → 16 ≤ length xs → set xs 0 a ≡ a ∷ drop 1 xs
first_store (x ∷ xs) a long = refl
first_store [] a long = absurd (omega arith)

pub sixteen_stores : (xs : List ℕ) (a b c d e f g h i j k l m n o p : ℕ) → 16 ≤ length xs →
    set (set (set (set (set (set (set (set (set (set (set (set (set (set (set (set xs
    0 a) 1 b) 2 c) 3 d) 4 e) 5 f) 6 g) 7 h) 8 i) 9 j) 10 k) 11 l) 12 m) 13 n) 14 o) 15 p
    ≡ a ∷ b ∷ c ∷ d ∷ e ∷ f ∷ g ∷ h ∷ i ∷ j ∷ k ∷ l ∷ m ∷ n ∷ o ∷ p ∷ drop 16 xs
sixteen_stores (_ ∷ _ ∷ _ ∷ _ ∷ _ ∷ _ ∷ _ ∷ _ ∷ _ ∷ _ ∷ _ ∷ _ ∷ _ ∷ _ ∷ _ ∷ _ ∷ xs) a b c d e f g h i j k l m n o p long = refl
sixteen_stores (_ ∷ _ ∷ _ ∷ _ ∷ _ ∷ _ ∷ _ ∷ _ ∷ _ ∷ _ ∷ _ ∷ _ ∷ _ ∷ _ ∷ _ ∷ []) a b c d e f g h i j k l m n o p long = absurd (omega arith)
sixteen_stores (_ ∷ _ ∷ _ ∷ _ ∷ _ ∷ _ ∷ _ ∷ _ ∷ _ ∷ _ ∷ _ ∷ _ ∷ _ ∷ _ ∷ []) a b c d e f g h i j k l m n o p long = absurd (omega arith)
sixteen_stores (_ ∷ _ ∷ _ ∷ _ ∷ _ ∷ _ ∷ _ ∷ _ ∷ _ ∷ _ ∷ _ ∷ _ ∷ _ ∷ []) a b c d e f g h i j k l m n o p long = absurd (omega arith)
sixteen_stores (_ ∷ _ ∷ _ ∷ _ ∷ _ ∷ _ ∷ _ ∷ _ ∷ _ ∷ _ ∷ _ ∷ _ ∷ []) a b c d e f g h i j k l m n o p long = absurd (omega arith)
sixteen_stores (_ ∷ _ ∷ _ ∷ _ ∷ _ ∷ _ ∷ _ ∷ _ ∷ _ ∷ _ ∷ _ ∷ []) a b c d e f g h i j k l m n o p long = absurd (omega arith)
sixteen_stores (_ ∷ _ ∷ _ ∷ _ ∷ _ ∷ _ ∷ _ ∷ _ ∷ _ ∷ _ ∷ []) a b c d e f g h i j k l m n o p long = absurd (omega arith)
sixteen_stores (_ ∷ _ ∷ _ ∷ _ ∷ _ ∷ _ ∷ _ ∷ _ ∷ _ ∷ []) a b c d e f g h i j k l m n o p long = absurd (omega arith)
sixteen_stores (_ ∷ _ ∷ _ ∷ _ ∷ _ ∷ _ ∷ _ ∷ _ ∷ []) a b c d e f g h i j k l m n o p long = absurd (omega arith)
sixteen_stores (_ ∷ _ ∷ _ ∷ _ ∷ _ ∷ _ ∷ _ ∷ []) a b c d e f g h i j k l m n o p long = absurd (omega arith)
sixteen_stores (_ ∷ _ ∷ _ ∷ _ ∷ _ ∷ _ ∷ []) a b c d e f g h i j k l m n o p long = absurd (omega arith)
sixteen_stores (_ ∷ _ ∷ _ ∷ _ ∷ _ ∷ []) a b c d e f g h i j k l m n o p long = absurd (omega arith)
sixteen_stores (_ ∷ _ ∷ _ ∷ _ ∷ []) a b c d e f g h i j k l m n o p long = absurd (omega arith)
sixteen_stores (_ ∷ _ ∷ _ ∷ []) a b c d e f g h i j k l m n o p long = absurd (omega arith)
sixteen_stores (_ ∷ _ ∷ []) a b c d e f g h i j k l m n o p long = absurd (omega arith)
sixteen_stores (_ ∷ []) a b c d e f g h i j k l m n o p long = absurd (omega arith)
sixteen_stores [] a b c d e f g h i j k l m n o p long = absurd (omega arith)

-- ---- THE WORDS OF A CURSOR HOLD IT, where its numbers are within their widths
direction_again : (d : Direction) → direction_of (direction_number d) ≡ d
direction_again Raise = refl
direction_again Lower = refl

direction_few : (d : Direction) → direction_number d < 2
direction_few Raise = omega arith
direction_few Lower = omega arith

standing_again : (s : Standing) → standing_in (standing_number s) ≡ s
standing_again Live = refl
standing_again (Default UnreliableRegion) = refl
standing_again (Default BadUnit) = refl
standing_again (Default NoGoodUnit) = refl

standing_few : (s : Standing) → standing_number s < 4
standing_few Live = omega arith
standing_few (Default UnreliableRegion) = omega arith
standing_few (Default BadUnit) = omega arith
standing_few (Default NoGoodUnit) = omega arith

answer_again : (written stage k row before : ℕ) (a : Answer) (ws : List ℕ) → answer_in (words_at written stage k row before a ws) ≡ a
answer_again written stage k row before a ws = rw (direction_again a.direction, standing_again a.residual)

no_answer_fits : AnswerFits no_answer
no_answer_fits = record { number = omega arith; set = omega arith; members = omega arith }

module _ (written stage k row before : ℕ) (a : Answer) (ws : List ℕ) where
  at_narrow : stage < 4 → k < 65_536 → row < 65_536 → before < 65_536 → AnswerFits a → Narrow (words_at written stage k row before a ws)
  at_narrow s q r p f =
      record {
        stage = s;
        requirement = q;
        row = r;
        before = p;
        number = f.number;
        direction = direction_few a.direction;
        set = f.set;
        members = f.members;
        standing = standing_few a.residual;
      }

  at_held : stage < 4 → k < 65_536 → row < 65_536 → before < 65_536 → AnswerFits a →
      cursor_held (words_at written stage k row before a ws) ≡ taken (cursor_at stage (words_at written stage k row before a ws))
  at_held s q r p f =
      let xs = words_at written stage k row before a ws in
      held_by xs (le-leb cursor_words (length xs) (omega arith)) (all_narrow xs (at_narrow s q r p f))

pub cursor_again : (written : ℕ) (at : Cursor) (ws : List ℕ) → CursorFits at → cursor_held (cursor_words_of written at ws) ≡ taken at
cursor_again written at.Interval ws fits = at_held written 0 0 0 0 no_answer ws (omega arith) (omega arith) (omega arith) (omega arith) no_answer_fits
cursor_again written (at.Requirement k) ws fits = at_held written 1 k 0 0 no_answer ws (omega arith) fits (omega arith) (omega arith) no_answer_fits
cursor_again written (at.Answered k a) ws fits =
    at_held written 2 k 0 0 a ws (omega arith) fits.0 (omega arith) (omega arith) fits.1
    ∙ ap (λ (x : Answer). taken (at.Answered k x)) (answer_again written 2 k 0 0 a ws)
cursor_again written (at.Members k a row before) ws fits =
    at_held written 3 k row before a ws (omega arith) fits.0 fits.2 fits.3 fits.1
    ∙ ap (λ (x : Answer). taken (at.Members k x row before)) (answer_again written 3 k row before a ws)
