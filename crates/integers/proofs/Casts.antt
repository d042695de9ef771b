-- Between a signed number and its size: casts to and from an unsigned type.
use mathlib.Core.Path.{◌≡◌, refl, sym, ◌∙◌, ap}
use Prim.Native.Nat.{ℕ, zero, suc, ◌+◌, ◌-◌, ◌/◌, ◌≤◌, ◌<◌, ◌^◌}
use native.Mathlib.Omega.{arith}
use lib.Dec.{T, ltb}
use lib.IntN.{ℤ, pos, negsuc, neg_ℤ, nat_abs, ◌+ℤ◌, ◌-ℤ◌, +ℤ_idl}
use lib.Signed.{◌≤ℤ◌, ◌<ℤ◌, non_neg, mag, yes_non_neg, pos-nat_abs, quot_z, rem_z, mag_rem}
use borrow.Author.Tests.{lt-ltb, le-ltb}
use mir.Syntax.{Width}
use mir.Val.{Fits, SFits, hbits, bits, to_z, of_z, sel}
use mir.Facts.{Fits-nat_abs, to_z-of_z}
use mir.ValLaws.{sfits_le}
use native.Mathlib.Nat.{div-le_self}
use Rattle.integers.specs.Pairs.{gain, loss}
use Rattle.integers.proofs.Pairs.{le_in, lt_in, ring, v, ◌⊕◌, ◌⊖◌}
use Rattle.integers.proofs.Bounds.{fits! }

-- `z as u64`
pub to_unsigned : {w w' : Width} {z : ℤ} → T (ltb (hbits w) (bits w')) → SFits w z → pos 0 ≤ℤ z → T (non_neg z) × Fits w' (nat_abs z)
to_unsigned t f h = (yes_non_neg h, Fits-nat_abs t f)

-- `n as i64`, read back
pub toZ_small : (w : Width) {n : ℕ} → n < 2 ^ hbits w → to_z w n ≡ pos n
toZ_small w {n} h = ap (λ t. sel t (pos n) (negsuc (2 ^ bits w - suc n))) (lt-ltb n (2 ^ hbits w) h)

-- the size of a number, by its sign
pub size_pos : (z : ℤ) → pos 0 ≤ℤ z → z ≡ pos (nat_abs z)
size_pos z h = sym (pos-nat_abs z (yes_non_neg h))

not_below : (n : ℕ) → pos n <ℤ pos 0 → ⊥
not_below n h = omega (arith, lt_in h)

pub size_neg : (z : ℤ) → z <ℤ pos 0 → pos 0 -ℤ z ≡ pos (nat_abs z)
size_neg (pos n) h = absurd (not_below n h)
size_neg (negsuc n) h = +ℤ_idl (pos (suc n))

pub size_lt : {w : Width} (z : ℤ) → SFits w z → pos 0 ≤ℤ z → nat_abs z < 2 ^ hbits w
size_lt (pos n) f h = f.sfits
size_lt (negsuc n) f h = absurd h.le

pub size_0< : (z : ℤ) → pos 0 <ℤ z → 0 < nat_abs z
size_0< (pos n) h = omega (arith, lt_in h)
size_0< (negsuc n) h = omega arith

-- the size of a number below zero, from the negative of one more, which every width has
pub turned : (z : ℤ) → z <ℤ pos 0 → pos 0 -ℤ (z +ℤ pos 1) ≡ pos (loss z - 1)
turned (pos n) h = absurd (not_below n h)
turned (negsuc n) h = ring (v (pos 0) ⊖ (v (negsuc n) ⊕ v (pos 1))) (v (pos (suc n - 1))) (omega arith)

pub fits_up : {w : Width} (z : ℤ) → z <ℤ pos 0 → SFits w z → SFits w (z +ℤ pos 1)
fits_up {w} (pos n) h f = absurd (not_below n h)
fits_up {w} (negsuc n) h f = fits! w (v (negsuc n) ⊕ v (pos 1)) (omega (arith, f.sfits)) (omega (arith, f.sfits))

pub fits_loss : {w : Width} (z : ℤ) → z <ℤ pos 0 → SFits w z → loss z - 1 < 2 ^ hbits w
fits_loss (pos n) h f = absurd (not_below n h)
fits_loss (negsuc n) h f = omega (arith, f.sfits)

pub gain_pos : (z : ℤ) → pos 0 ≤ℤ z → nat_abs z ≡ gain z
gain_pos (pos n) h = refl
gain_pos (negsuc n) h = absurd h.le

pub no_gain : (z : ℤ) → z ≤ℤ pos 0 → gain z ≡ 0
no_gain (pos n) h = omega (arith, le_in h)
no_gain (negsuc n) h = refl

pub no_loss : (z : ℤ) → pos 0 ≤ℤ z → loss z ≡ 0
no_loss (pos n) h = refl
no_loss (negsuc n) h = absurd h.le

pub some_loss : (z : ℤ) → z <ℤ pos 0 → 0 < loss z
some_loss (pos n) h = absurd (not_below n h)
some_loss (negsuc n) h = omega arith

-- ---- `x == y` tells of the bits
pub same_bits : {w : Width} {x y : ℤ} → SFits w x → SFits w y → of_z w x ≡ of_z w y → x ≡ y
same_bits {w} fx fy e = sym (to_z-of_z fx) ∙ ap (to_z w) e ∙ to_z-of_z fy

pub other_bits : (w : Width) {x y : ℤ} → (of_z w x ≡ of_z w y → ⊥) → x ≡ y → ⊥
other_bits w f e = f (ap (of_z w) e)

-- ---- `x / y` and `x % y` at a y above zero
pub bits_pos : (w : Width) (y : ℤ) → pos 0 <ℤ y → 0 < of_z w y
bits_pos w (pos n) h = omega (arith, lt_in h)
bits_pos w (negsuc n) h = absurd h.lt

mag_neg : (r a : ℕ) → r ≤ suc a → mag (neg_ℤ (pos r)) ≤ a
mag_neg zero a h = omega arith
mag_neg (suc r) a h = omega arith

mag_quot : (x y : ℤ) → pos 0 <ℤ y → mag (quot_z x y) ≤ mag x
mag_quot (pos a) (pos b) h = div-le_self a b
mag_quot (negsuc a) (pos b) h = mag_neg (suc a / b) a (div-le_self (suc a) b)
mag_quot (pos a) (negsuc b) h = absurd h.lt
mag_quot (negsuc a) (negsuc b) h = absurd (no b a (lt_in h))
  where
    no : (b a : ℕ) → 0 + suc b < 0 + 0 → ⊥
    no b a h = omega arith

pub sfits_quot : {w : Width} (x y : ℤ) → pos 0 <ℤ y → SFits w x → SFits w (quot_z x y)
sfits_quot x y h f = sfits_le (mag_quot x y h) f

pub sfits_rem : {w : Width} (x y : ℤ) → SFits w x → SFits w (rem_z x y)
sfits_rem x y f = sfits_le (mag_rem x y) f

-- a call's result, read back: `.ok` and what the callee ensures
pub back : (w : Width) {z y : ℤ} → mag z < 2 ^ hbits w → z ≡ y → to_z w (of_z w z) ≡ y
back w f e = to_z-of_z (record { sfits = f }) ∙ e

-- an element's bound, at its own width and at a wider one
pub elem : (w : Width) (z : ℤ) → mag z < 2 ^ hbits w → SFits w z
elem w z f = record { sfits = f }

-- ---- an unsigned number's upper half read as below zero: `-((MAX - x) as i64) - 1`, where y is MAX - x
pub turned_fits : (w : Width) (y : ℕ) → y < 2 ^ hbits w → SFits w (pos 0 -ℤ pos y)
turned_fits w y h = fits! w (v (pos 0) ⊖ v (pos y)) (omega arith) (omega arith)

pub turned_next_fits : (w : Width) (y : ℕ) → y < 2 ^ hbits w → SFits w ((pos 0 -ℤ pos y) -ℤ pos 1)
turned_next_fits w y h = fits! w ((v (pos 0) ⊖ v (pos y)) ⊖ v (pos 1)) (omega arith) (omega arith)

pub toZ_upper : (w : Width) (x y : ℕ) → 2 ^ hbits w ≤ x → x + y + 1 ≡ 2 ^ bits w → (pos 0 -ℤ pos y) -ℤ pos 1 ≡ to_z w x
toZ_upper w x y h e =
    ring ((v (pos 0) ⊖ v (pos y)) ⊖ v (pos 1)) (v (negsuc (2 ^ bits w - suc x))) (omega arith)
    ∙ ap (λ t. sel t (pos x) (negsuc (2 ^ bits w - suc x))) (sym (le-ltb x (2 ^ hbits w) h))

-- the same as the machine has it, with each step's number read back from its bits
pub turned_back : (w : Width) (x y : ℕ) → y < 2 ^ hbits w → 2 ^ hbits w ≤ x → x + y + 1 ≡ 2 ^ bits w →
    to_z w (of_z w (to_z w (of_z w (pos 0 -ℤ to_z w y)) -ℤ pos 1)) ≡ to_z w x
turned_back w x y h l e = rw (toZ_small w {n = y} h, to_z-of_z (turned_fits w y h)) (to_z-of_z (turned_next_fits w y h) ∙ toZ_upper w x y l e)
