-- Records as bytes (02, R-4): what the reader takes apart, put together. The fields go one behind the other, the lowest byte of a number first.
use Rattle.std.specs.Prelude.{Bool, false, cond, List, [], ◌∷◌, ◌++◌, ℕ, zero, suc, ◌*◌, ◌-◌, ◌/◌, ◌%◌, ◌^◌, ltb, ℤ, pos, negsuc, nat_abs}
use Rattle.rules.specs.Layout.{Field}

-- n bytes of a number, the lowest first
unfoldable pub bytes : ℕ → ℕ → List ℕ
bytes zero x = []
bytes (suc n) x = x % 256 ∷ bytes n (x / 256)

-- n lists one behind the other, those of the indexes from i on
unfoldable pub strung : ℕ → ℕ → (ℕ → List ℕ) → List ℕ
strung i zero f = []
strung i (suc n) f = f i ++ strung (suc i) n f

-- a field with what goes into it: its i-th number as so many bytes hold it
pub record Filled : Type 0 where
  pub field : Field
  pub words : ℕ → ℕ

-- a record: its fields' numbers, one behind the other
unfoldable pub laid : List Filled → List ℕ
laid [] = []
laid (f ∷ fs) = strung 0 f.field.count (λ i. bytes f.field.width (f.words i)) ++ laid fs

-- ---- a number that is handed in, and its field
-- is it from 0 up to an end, which it does not reach; within so many either way, as a signed number of that half is
abbrev pub below : ℕ → ℤ → Bool
below end (pos x) = ltb x end
below end (negsuc x) = false

abbrev pub halved : ℕ → ℤ → Bool
halved half (pos x) = ltb x half
halved half (negsuc x) = ltb x half

-- does it fit an unsigned field; a signed one
abbrev pub fits : Field → ℤ → Bool
fits f x = below (2 ^ (8 * f.width)) x

abbrev pub fits_signed : Field → ℤ → Bool
fits_signed f x = halved (2 ^ (8 * f.width - 1)) x

-- a number below zero stands in the upper half
abbrev pub turned : ℕ → ℤ → ℕ
turned end (pos x) = x
turned end (negsuc x) = end - suc x

abbrev pub complement : Field → ℤ → ℕ
complement f x = turned (2 ^ (8 * f.width)) x

-- what the field holds: 0 for a number that does not fit, since no such book is written
abbrev pub word : Field → ℤ → ℕ
word f x = cond (fits f x) (nat_abs x) 0

abbrev pub signed_word : Field → ℤ → ℕ
signed_word f x = cond (fits_signed f x) (complement f x) 0

-- ---- fields that are filled: with one number as it is, with one that is handed in, with several of either sign that may not fit; and with several from a
-- list of the field's own type, which fit
infix 3 ◌is◌
abbrev pub ◌is◌ : Field → ℕ → Filled
f is x = record { field = f; words = λ i. x }

infix 3 ◌holds◌
abbrev pub ◌holds◌ : Field → ℤ → Filled
f holds x = record { field = f; words = λ i. word f x }

infix 3 ◌holds_signed◌
abbrev pub ◌holds_signed◌ : Field → (ℕ → ℤ) → Filled
f holds_signed xs = record { field = f; words = λ i. signed_word f (xs i) }

infix 3 ◌are◌
abbrev pub ◌are◌ : Field → (ℕ → ℕ) → Filled
f are xs = record { field = f; words = xs }

infix 3 ◌are_signed◌
abbrev pub ◌are_signed◌ : Field → (ℕ → ℤ) → Filled
f are_signed xs = record { field = f; words = λ i. complement f (xs i) }
