-- What is read and laid out again is the bytes that it was read from.
use mathlib.Core.Path.{◌≡◌, refl, sym, ◌∙◌, ap, ap₂}
use mathlib.Core.Bool.{true}
use mathlib.Core.List.{List, [], ◌∷◌, ◌++◌}
use Prim.Native.Nat.{ℕ, zero, suc, ◌+◌, ◌*◌, ◌/◌, ◌%◌, ◌≤◌, ◌<◌}
use native.Mathlib.Nat.{zero-add, add-zero, mul-zero, mul-suc, zero-mul, suc-mul, mul_comm, mul-le-mul_left}
use native.Mathlib.Omega.{arith}
use lib.Dec.{eqb}
use lib.ListN.{length, get_or, take, drop, length-drop}
use lib.Seq.{take-add, drop-drop, get_or-drop}
use borrow.Author.Tests.{eqb-true}
use Rattle.integers.specs.Sums.{both}
use Rattle.integers.proofs.Sums.{none_below}
use Rattle.rules.specs.Bytes.{little}
use Rattle.rules.specs.Layout.{number_in}
use Rattle.rules.specs.Laid.{Filled, bytes, strung, laid}
use Rattle.laws.proofs.LaidLaws.{size_of, gapless, field_laid}

-- each is a byte
abbrev pub Bytes : List ℕ → Type 0
Bytes xs = (i : ℕ) → get_or xs i 0 < 256

pub bytes_behind : (p : ℕ) (xs : List ℕ) → Bytes xs → Bytes (drop p xs)
bytes_behind p xs h i = rw (get_or-drop p xs i 0) (h (p + i))

-- a number's bytes are those that it was read from
pub bytes_taken : (n : ℕ) (xs : List ℕ) → n ≤ length xs → Bytes xs → bytes n (little n xs) ≡ take n xs
unfolding bytes little
bytes_taken zero xs h below = refl
bytes_taken (suc n) [] h below = none_below n h
bytes_taken (suc n) (x ∷ xs) h below =
    let low : (x + 256 * little n xs) % 256 ≡ x = omega (arith, below 0) in
    let high : (x + 256 * little n xs) / 256 ≡ little n xs = omega (arith, below 0) in
    ap₂ (λ (y : ℕ) (ys : List ℕ). y ∷ ys) low (ap (bytes n) high ∙ bytes_taken n xs (omega arith) (λ i. below (suc i)))

-- pieces of one size, each taken at its place, are taken together
pub strung_taken : (w n j : ℕ) (f : ℕ → List ℕ) (xs : List ℕ) → ((i : ℕ) → i < n → f (j + i) ≡ take w (drop (w * i) xs)) →
    strung j n f ≡ take (n * w) xs
unfolding strung
strung_taken w zero j f xs e = rw (zero-mul w)
strung_taken w (suc n) j f xs e =
    let first : f j ≡ take w xs = ap f (sym (add-zero j)) ∙ e 0 (omega arith) ∙ ap (λ (p : ℕ). take w (drop p xs)) (mul-zero w) in
    let others : (i : ℕ) → i < n → f (suc j + i) ≡ take w (drop (w * i) (drop w xs)) =
    λ i l.
    let next : suc j + i ≡ j + suc i = omega arith in
    let place : w * suc i ≡ w + w * i = omega (arith, mul-suc w i) in
    ap f next ∙ e (suc i) (omega arith) ∙ ap (take w) (ap (λ (p : ℕ). drop p xs) place ∙ sym (drop-drop (w * i) w xs)) in
    let size : suc n * w ≡ w + n * w = omega (arith, suc-mul n w) in
    ap₂ ◌++◌ first (strung_taken w n (suc j) f (drop w xs) others) ∙ sym (take-add w (n * w) xs) ∙ ap (λ (k : ℕ). take k xs) (sym size)

-- the numbers of a field are those at its place
abbrev pub Read : List ℕ → Filled → Type 0
Read bs f = (i : ℕ) → i < f.field.count → f.words i ≡ number_in f.field i bs

infixr 2 ◌then◌
pub data Reads (bs : List ℕ) : List Filled → Type 0 where
  done : Reads bs []
  ◌then◌ : {f : Filled} {fs : List Filled} → Read bs f → Reads bs fs → Reads bs (f ∷ fs)

pub field_taken : (f : Filled) (bs : List ℕ) → f.field.place + f.field.count * f.field.width ≤ length bs → Bytes bs → Read bs f →
    field_laid f ≡ take (f.field.count * f.field.width) (drop f.field.place bs)
field_taken f bs long below read =
    let w = f.field.width in
    let p = f.field.place in
    strung_taken w f.field.count 0 (λ i. bytes w (f.words i)) (drop p bs)
    (λ i l.
    let inside : w ≤ length (drop (p + w * i) bs) =
    omega (arith, length-drop (p + w * i) bs, mul-suc w i, mul-le-mul_left w l, mul_comm w f.field.count) in
    ap (λ (k : ℕ). bytes w (f.words k)) (zero-add i) ∙ ap (bytes w) (read i l)
    ∙ bytes_taken w (drop (p + w * i) bs) inside (bytes_behind (p + w * i) bs below)
    ∙ ap (take w) (sym (drop-drop (w * i) p bs)))

-- A RECORD LAID OUT FROM WHAT IS READ is the record's bytes
pub laid_taken : (place : ℕ) (fs : List Filled) (bs : List ℕ) → gapless place fs ≡ true → place + size_of fs ≤ length bs → Bytes bs →
    Reads bs fs → laid fs ≡ take (size_of fs) (drop place bs)
unfolding laid size_of gapless
laid_taken place [] bs e long below done = refl
laid_taken place (f ∷ fs) bs e long below (read then others) =
    let size = f.field.count * f.field.width in
    let at : f.field.place ≡ place = eqb-true _ _ (both (eqb f.field.place place) _ e).0 in
    let here : field_laid f ≡ take size (drop place bs) =
    field_taken f bs (omega arith) below read ∙ ap (λ (p : ℕ). take size (drop p bs)) at in
    let rest = laid_taken (place + size) fs bs (both (eqb f.field.place place) _ e).1 (omega arith) below others in
    ap₂ ◌++◌ here (rest ∙ ap (take (size_of fs)) (sym (drop-drop size place bs))) ∙ sym (take-add size (size_of fs) (drop place bs))
