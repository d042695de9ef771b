-- Laws of records as bytes: how long they are, and that every field is read back at its place.
use mathlib.Core.Path.{◌≡◌, refl, sym, ◌∙◌, ap, ap₂}
use mathlib.Core.Bool.{Bool, true, false, cond, ◌&&◌}
use mathlib.Core.List.{List, [], ◌∷◌, ◌++◌, append_assoc, append-nil}
use Prim.Native.Nat.{ℕ, zero, suc, ◌+◌, ◌*◌, ◌/◌, ◌%◌, ◌^◌, ◌≤◌, ◌<◌}
use native.Mathlib.Numerals.{add-one}
use native.Mathlib.Nat.{
  zero-add,
  add-zero,
  mul-suc,
  mul-zero,
  suc-mul,
  zero-mul,
  mul_assoc,
  mul-add,
  pow-succ',
  mod-one,
  mod-eq_of_lt,
  mod-add-div,
  div-div-eq-div-mul,
}
use native.Mathlib.Omega.{arith}
use lib.Dec.{eqb, ltb}
use lib.IntN.{ℤ, pos, negsuc, nat_abs}
use lib.ListN.{length, get_or, length-append}
use lib.Seq.{drop-append-add}
use borrow.Author.Tests.{eqb-true, ltb-true}
use Rattle.integers.specs.Sums.{both}
use Rattle.integers.proofs.Sums.{none_below}
use Rattle.rules.specs.Quantities.{regions}
use Rattle.rules.specs.Bytes.{little, number_at}
use Rattle.rules.specs.Layout.{number_of, number_in, unit_number, unit_region, unit_group}
use Rattle.rules.specs.Laid.{Filled, bytes, strung, laid, below, word, ◌is◌}
use Rattle.rules.specs.Given.{Given, unit_cell}
use Rattle.rules.specs.Written.{
  contents_filled,
  settings_filled,
  region_filled,
  unit_filled,
  requirement_filled,
  region_laid,
  unit_laid,
  requirement_laid,
  book_laid,
  book_size,
}

-- ---- lengths
pub bytes_length : (n x : ℕ) → length (bytes n x) ≡ n
unfolding bytes
bytes_length zero x = refl
bytes_length (suc n) x = ap suc (bytes_length n (x / 256))

pub strung_length : (i n w : ℕ) (f : ℕ → List ℕ) → ((j : ℕ) → length (f j) ≡ w) → length (strung i n f) ≡ n * w
unfolding strung
strung_length i zero w f h = sym (zero-mul w)
strung_length i (suc n) w f h = rw (length-append, h i, strung_length (suc i) n w f h, suc-mul n w) (omega arith)

-- one list more
pub strung_more : (i n : ℕ) (f : ℕ → List ℕ) → strung i (n + 1) f ≡ strung i n f ++ f (i + n)
unfolding strung
strung_more i n f = ap (λ (m : ℕ). strung i m f) (add-one n) ∙ go i n
  where
    go : (i n : ℕ) → strung i (suc n) f ≡ strung i n f ++ f (i + n)
    go i zero = append-nil (f i) ∙ ap f (sym (add-zero i))
    go i (suc n) = ap (λ (l : List ℕ). f i ++ l) (go (suc i) n ∙ ap (λ (j : ℕ). strung (suc i) n f ++ f j) (omega arith)) ∙ sym (append_assoc (f i) _ _)

pub strung_ext : (i n : ℕ) (f g : ℕ → List ℕ) → ((j : ℕ) → i ≤ j → j < i + n → f j ≡ g j) → strung i n f ≡ strung i n g
unfolding strung
strung_ext i zero f g e = refl
strung_ext i (suc n) f g e = ap₂ ◌++◌ (e i (omega arith) (omega arith)) (strung_ext (suc i) n f g (λ j l h. e j (omega arith) (omega arith)))

-- a field's bytes
abbrev pub field_laid : Filled → List ℕ
field_laid f = strung 0 f.field.count (λ i. bytes f.field.width (f.words i))

pub field_length : (f : Filled) → length (field_laid f) ≡ f.field.count * f.field.width
field_length f = strung_length 0 f.field.count f.field.width _ (λ i. bytes_length f.field.width (f.words i))

-- a record's size is that of its fields
unfoldable pub size_of : List Filled → ℕ
size_of [] = 0
size_of (f ∷ fs) = f.field.count * f.field.width + size_of fs

pub laid_length : (fs : List Filled) → length (laid fs) ≡ size_of fs
unfolding laid size_of
laid_length [] = refl
laid_length (f ∷ fs) = length-append (field_laid f) (laid fs) ∙ ap₂ ◌+◌ (field_length f) (laid_length fs)

pub contents_length : (units requirements : ℕ) → length (laid (contents_filled units requirements)) ≡ 56
unfolding size_of
contents_length units requirements = laid_length (contents_filled units requirements)

pub settings_length : (g : Given) → length (laid (settings_filled g)) ≡ 8
unfolding size_of
settings_length g = laid_length (settings_filled g)

pub region_length : (g : Given) (r : ℕ) → length (region_laid g r) ≡ 368
unfolding size_of
region_length g r = laid_length (region_filled g r)

pub unit_length : (g : Given) (j : ℕ) → length (unit_laid g j) ≡ 372
unfolding size_of
unit_length g j = laid_length (unit_filled g j)

pub requirement_length : (g : Given) (q : ℕ) → length (requirement_laid g q) ≡ 24
unfolding size_of
requirement_length g q = laid_length (requirement_filled g q)

pub book_length : (g : Given) → length (book_laid g) ≡ book_size g.units g.requirements
unfolding book_laid
book_length g =
    rw (
      length-append (laid (contents_filled g.units g.requirements)) _,
      length-append (laid (settings_filled g)) _,
      length-append (strung 0 regions (region_laid g)) _,
      length-append (strung 0 g.units (unit_laid g)) _,
      contents_length g.units g.requirements,
      settings_length g,
      strung_length 0 regions 368 (region_laid g) (region_length g),
      strung_length 0 g.units 372 (unit_laid g) (unit_length g),
      strung_length 0 g.requirements 24 (requirement_laid g) (requirement_length g),
    ) (omega arith)

-- ---- reading back
-- a remainder by parts
pub mod_parts : (a x m : ℕ) → x % a + a * (x / a % m) ≡ x % (a * m)
mod_parts a x m =
    let whole = mod-add-div x (a * m) in
    let high = ap (λ (y : ℕ). a * y) (rw (div-div-eq-div-mul x a m) at (mod-add-div (x / a) m)) in
    omega (arith, mod-add-div x a, mul-add a (x / a % m) (m * (x / (a * m))), mul_assoc a m (x / (a * m)))

pub little_back : (n x : ℕ) (rest : List ℕ) → little n (bytes n x ++ rest) ≡ x % 256 ^ n
unfolding little bytes
little_back zero x rest = sym (mod-one x)
little_back (suc n) x rest =
    ap (λ (y : ℕ). x % 256 + 256 * y) (little_back n (x / 256) rest) ∙ mod_parts 256 x (256 ^ n) ∙ ap (λ (m : ℕ). x % m) (sym
    (pow-succ' 256 n))

pub little_whole : (n x : ℕ) (rest : List ℕ) → x < 256 ^ n → little n (bytes n x ++ rest) ≡ x
little_whole n x rest h = little_back n x rest ∙ mod-eq_of_lt h

-- the i-th of several numbers of w bytes
series_back :
    (w j n i : ℕ) (words : ℕ → ℕ) (rest : List ℕ) → i < n → number_at w (w * i) (strung j n (λ k. bytes w (words k)) ++ rest) ≡ words (j + i) % 256 ^ w
unfolding strung
series_back w j zero i words rest h = none_below i h
series_back w j (suc n) zero words rest h =
    rw (mul-zero w, append_assoc (bytes w (words j)) _ rest, add-zero j) (little_back w (words j) (strung (suc j) n (λ k. bytes w (words k)) ++ rest))
series_back w j (suc n) (suc i) words rest h =
    let place : w * suc i ≡ length (bytes w (words j)) + w * i = omega (arith, mul-suc w i, bytes_length w (words j)) in
    let behind = strung (suc j) n (λ k. bytes w (words k)) ++ rest in
    let next : suc j + i ≡ j + suc i = omega arith in
    ap (λ (l : List ℕ). number_at w (w * suc i) l) (append_assoc (bytes w (words j)) _ rest)
    ∙ ap (λ (p : ℕ). number_at w p (bytes w (words j) ++ behind)) place
    ∙ ap (little w) (drop-append-add (bytes w (words j)) behind (w * i))
    ∙ series_back w (suc j) n i words rest (omega arith)
    ∙ ap (λ (k : ℕ). words k % 256 ^ w) next

-- each field starts where the one before it ends
unfoldable pub gapless : ℕ → List Filled → Bool
gapless place [] = true
gapless place (f ∷ fs) = eqb f.field.place place && gapless (place + f.field.count * f.field.width) fs

-- the k-th of some fields behind a front
module _ (none : Filled) (rest : List ℕ) where
  behind_back :
      (front : List ℕ) (fs : List Filled) (k i : ℕ) → gapless (length front) fs ≡ true → k < length fs → i < (get_or fs k none).field.count →
      number_in (get_or fs k none).field i (front ++ (laid fs ++ rest)) ≡ (get_or fs k none).words i % 256 ^ (get_or fs k none).field.width
  unfolding laid gapless
  behind_back front [] k i e l h = none_below k l
  behind_back front (f ∷ fs) zero i e l h =
      let at : f.field.place ≡ length front = eqb-true _ _ (both (eqb f.field.place (length front)) _ e).0 in
      let numbers = field_laid f in
      ap (λ (p : ℕ). number_at f.field.width (p + f.field.width * i) (front ++ ((numbers ++ laid fs) ++ rest))) at
      ∙ ap (little f.field.width) (drop-append-add front ((numbers ++ laid fs) ++ rest) (f.field.width * i))
      ∙ ap (λ (l : List ℕ). number_at f.field.width (f.field.width * i) l) (append_assoc numbers (laid fs) rest)
      ∙ series_back f.field.width 0 f.field.count i f.words (laid fs ++ rest) h
      ∙ ap (λ (k : ℕ). f.words k % 256 ^ f.field.width) (zero-add i)
  behind_back front (f ∷ fs) (suc k) i e l h =
      let numbers = field_laid f in
      let length_is : length front + f.field.count * f.field.width ≡ length (front ++ numbers) =
      sym (length-append front numbers ∙ ap (λ (n : ℕ). length front + n) (field_length f)) in
      let e' : gapless (length (front ++ numbers)) fs ≡ true =
      ap (λ (p : ℕ). gapless p fs) (sym length_is) ∙ (both (eqb f.field.place (length front)) _ e).1 in
      ap (number_in (get_or fs k none).field i) (ap (λ (l : List ℕ). front ++ l) (append_assoc numbers (laid fs) rest)
      ∙ sym (append_assoc front numbers (laid fs ++ rest)))
      ∙ behind_back (front ++ numbers) fs k i e' (omega arith) h

-- EVERY FIELD OF A RECORD IS READ BACK: the i-th number of its k-th field
pub field_back :
    (none : Filled) (fs : List Filled) (rest : List ℕ) (k i : ℕ) → gapless 0 fs ≡ true → k < length fs → i < (get_or fs k none).field.count →
    number_in (get_or fs k none).field i (laid fs ++ rest) ≡ (get_or fs k none).words i % 256 ^ (get_or fs k none).field.width
field_back none fs rest k i e l h = behind_back none rest [] fs k i e l h

pub laid_back :
    (none : Filled) (fs : List Filled) (k i : ℕ) → gapless 0 fs ≡ true → k < length fs → i < (get_or fs k none).field.count →
    number_in (get_or fs k none).field i (laid fs) ≡ (get_or fs k none).words i % 256 ^ (get_or fs k none).field.width
laid_back none fs k i e l h = ap (number_in (get_or fs k none).field i) (sym (append-nil (laid fs))) ∙ field_back none fs [] k i e l h

-- what a field holds is below its end
pub word_below : (end : ℕ) (x : ℤ) → 0 < end → cond (below end x) (nat_abs x) 0 < end
word_below end (pos x) h = go (ltb x end) refl
  where
    go : (t : Bool) → ltb x end ≡ t → cond t x 0 < end
    go true e = ltb-true x end e
    go false e = h
word_below end (negsuc x) h = h

-- ---- what a unit's number, region and group are read as
module _ (g : Given) (j : ℕ) where
  unit_word_back : (k : ℕ) → k < 8 → 0 < (get_or (unit_filled g j) k (unit_number is 0)).field.count →
      number_in (get_or (unit_filled g j) k (unit_number is 0)).field 0 (unit_laid g j)
      ≡ (get_or (unit_filled g j) k (unit_number is 0)).words 0 % 256 ^ (get_or (unit_filled g j) k (unit_number is 0)).field.width
  unfolding gapless
  unit_word_back k l h = laid_back (unit_number is 0) (unit_filled g j) k 0 refl l h

  pub unit_number_back : number_of unit_number (unit_laid g j) ≡ word unit_number (unit_cell g j 0)
  unit_number_back = unit_word_back 0 (omega arith) (omega arith) ∙ mod-eq_of_lt (word_below (2 ^ 16) (unit_cell g j 0) (omega arith))

  pub unit_region_back : number_of unit_region (unit_laid g j) ≡ word unit_region (unit_cell g j 1)
  unit_region_back = unit_word_back 1 (omega arith) (omega arith) ∙ mod-eq_of_lt (word_below (2 ^ 8) (unit_cell g j 1) (omega arith))

  pub unit_group_back : number_of unit_group (unit_laid g j) ≡ word unit_group (unit_cell g j 5)
  unit_group_back = unit_word_back 6 (omega arith) (omega arith) ∙ mod-eq_of_lt (word_below (2 ^ 16) (unit_cell g j 5) (omega arith))
