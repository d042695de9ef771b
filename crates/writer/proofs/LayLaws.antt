-- Fields that are put one behind the other are a record laid out.
use mathlib.Core.Path.{◌≡◌, refl, sym, ◌∙◌, ap}
use mathlib.Core.List.{List, [], ◌∷◌, ◌++◌, append_assoc, append-nil}
use Prim.Native.Nat.{ℕ, ◌+◌, ◌≤◌, ◌<◌, ◌^◌}
use native.Mathlib.Nat.{add-zero, add_assoc, zero-add}
use native.Mathlib.Omega.{arith}
use lib.IntN.{ℤ}
use lib.ListN.{length}
use lib.Signed.{mag}
use borrow.Author.Rules.{sfits_of}
use mir.Facts.{to_z-of_z}
use mir.Syntax.{Width}
use mir.Val.{hbits, to_z, of_z}
use Rattle.rules.specs.Layout.{many}
use Rattle.rules.specs.Laid.{Filled, bytes, strung, laid}
use Rattle.laws.proofs.LaidLaws.{strung_ext, field_laid, size_of, laid_length}
use Rattle.writer.specs.Put.{put}
use Rattle.writer.proofs.PutLaws.{put_none, put_length, put_next}

-- a number of a list, as a call was handed it
pub read : (w : Width) {A : Type 0} (g : ℤ → A) (z : ℤ) {r : A} → mag z < 2 ^ hbits w → r ≡ g (to_z w (of_z w z)) → r ≡ g z
read w g z small e = e ∙ ap g (to_z-of_z (sfits_of small))

-- if there is room for the fields from d bytes behind `at` on, then the new book is the old one with them there
pub record Lays (at d : ℕ) (fs : List Filled) (old new : List ℕ) : Type 0 where
  pub is : at + (d + size_of fs) ≤ length old → new ≡ put (at + d) (laid fs) old

pub lays_all : {at : ℕ} (fs : List Filled) {old new : List ℕ} → at + size_of fs ≤ length old → Lays at 0 fs old new → new ≡ put at (laid fs) old
lays_all {at} fs {old} room l = l.is (omega arith) ∙ ap (λ (n : ℕ). put n (laid fs) old) (add-zero at)

pub lays_none : {at d : ℕ} {old : List ℕ} → Lays at d [] old old
unfolding laid
lays_none {at} {d} {old} = record { is = λ room. sym (put_none (at + d) old) }

laid_append : (fs gs : List Filled) → laid (fs ++ gs) ≡ laid fs ++ laid gs
unfolding laid
laid_append [] gs = refl
laid_append (f ∷ fs) gs = ap (λ (l : List ℕ). field_laid f ++ l) (laid_append fs gs) ∙ sym (append_assoc (field_laid f) (laid fs) (laid gs))

size_append : (fs gs : List Filled) → size_of (fs ++ gs) ≡ size_of fs + size_of gs
unfolding size_of
size_append [] gs = sym (zero-add (size_of gs))
size_append (f ∷ fs) gs = omega (arith, size_append fs gs)

-- some fields, and then the others
pub lays_fields : {at d : ℕ} (gs : List Filled) {fs : List Filled} {old mid new : List ℕ} → mid ≡ put (at + d) (laid gs) old →
    Lays at (d + size_of gs) fs mid new → Lays at d (gs ++ fs) old new
lays_fields {at} {d} gs {fs} {old} {mid} {new} e l = record { is = λ room. go (rw (size_append gs fs) at room) }
  where
    go : at + (d + (size_of gs + size_of fs)) ≤ length old → new ≡ put (at + d) (laid (gs ++ fs)) old
    go room =
        let long = ap length e ∙ put_length (at + d) (laid gs) old (omega (arith, laid_length gs)) in
        put_next (at + d) (size_of gs) (laid gs) (laid fs) old (laid_length gs) (omega (arith, laid_length fs)) e
        (l.is (omega (arith, long)) ∙ ap (λ (n : ℕ). put n (laid fs) mid) (sym (add_assoc at d (size_of gs))))
        ∙ ap (λ (l : List ℕ). put (at + d) l old) (sym (laid_append gs fs))

-- a field's numbers
abbrev pub filling : ℕ → ℕ → ℕ → (ℕ → ℕ) → Filled
filling count w place words = record { field = many count w place; words = words }

one_laid : (w place : ℕ) (words : ℕ → ℕ) → bytes w (words 0) ≡ laid (filling 1 w place words ∷ [])
unfolding laid strung
one_laid w place words = simp append-nil

run_laid : (n w place : ℕ) (words : ℕ → ℕ) → strung 0 n (λ i. bytes w (words i)) ≡ laid (filling n w place words ∷ [])
unfolding laid
run_laid n w place words = simp append-nil

-- a field of one number
pub lays_one : {at d w place : ℕ} {words : ℕ → ℕ} {fs : List Filled} {old mid new : List ℕ} {r : ℕ} → r ≡ words 0 → mid ≡ put (at + d) (bytes w r) old →
    Lays at (d + size_of (filling 1 w place words ∷ [])) fs mid new → Lays at d (filling 1 w place words ∷ fs) old new
lays_one {at} {d} {w} {place} {words} {old} e f l =
    lays_fields (filling 1 w place words ∷ []) (f ∙ ap (λ (l : List ℕ). put (at + d) l old) (ap (bytes w) e ∙ one_laid w place words)) l

-- the record's first
pub lays_first : {at w place : ℕ} {words : ℕ → ℕ} {fs : List Filled} {old mid new : List ℕ} {r : ℕ} → r ≡ words 0 → mid ≡ put at (bytes w r) old →
    Lays at (0 + size_of (filling 1 w place words ∷ [])) fs mid new → Lays at 0 (filling 1 w place words ∷ fs) old new
lays_first {at} {w} {old} {r} e f l = lays_one e (f ∙ ap (λ (n : ℕ). put n (bytes w r) old) (sym (add-zero at))) l

-- a field of several
pub lays_run : {at d n w place : ℕ} {words : ℕ → ℕ} {fs : List Filled} {old mid new : List ℕ} (run : ℕ → List ℕ) → ((j : ℕ) → run j ≡ bytes w (words j)) →
    mid ≡ put (at + d) (strung 0 n run) old → Lays at (d + size_of (filling n w place words ∷ [])) fs mid new → Lays at d (filling n w place words ∷ fs) old new
lays_run {at} {d} {n} {w} {place} {words} {old} run e f l =
    lays_fields (filling n w place words ∷ []) (f ∙ ap (λ (l : List ℕ). put (at + d) l old)
    (strung_ext 0 n run (λ i. bytes w (words i)) (λ j low high. e j) ∙ run_laid n w place words)) l

-- a field of two that are put by themselves
pub lays_two : {at d w place : ℕ} {words : ℕ → ℕ} {fs : List Filled} {old new : List ℕ} →
    Lays at d (filling 1 w place (λ i. words 0) ∷ filling 1 w place (λ i. words 1) ∷ fs) old new → Lays at d (filling 2 w place words ∷ fs) old new
unfolding laid strung size_of
lays_two {at} {d} {w} {words} {fs} {old} l =
    record { is = λ room. l.is (omega arith) ∙ ap (λ (l : List ℕ). put (at + d) l old) (simp (append-nil, append_assoc)) }
