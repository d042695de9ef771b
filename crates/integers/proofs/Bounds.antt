-- Laws of the definitions in specs/Bounds.antt.
use mathlib.Core.Path.{◌≡◌, refl}
use Prim.Native.Nat.{ℕ, zero, suc, ◌+◌, ◌*◌, ◌≤◌, ◌<◌, ◌^◌}
use native.Mathlib.Omega.{arith}
use native.Mathlib.Nat.{mul-le-mul}
use lib.Dec.{T, leb, ltb, leb→le, ltb→lt}
use lib.IntN.{ℤ, pos, negsuc, neg_ℤ, nat_abs, ◌+ℤ◌, ◌-ℤ◌, ◌*ℤ◌}
use lib.Signed.{◌≤ℤ◌, mag}
use mir.Syntax.{Width}
use mir.Val.{SFits, hbits}
use Rattle.integers.specs.Pairs.{gain, loss}
use Rattle.integers.proofs.Pairs.{Pair, v, ◌⊕◌, ◌⊖◌, ◌⊗◌, neg, le!, le?, le_in, add_is}
use Rattle.integers.proofs.Order.{zrules, *ℤ-mono}
use Rattle.integers.specs.Bounds.{Within}

-- ---- the size of a number
pub abs_is : (a : ℤ) → nat_abs a ≡ gain a + loss a
abs_is (pos n) = omega arith
abs_is (negsuc n) = omega arith

pub gain_≤ : (a : ℤ) → gain a ≤ nat_abs a
gain_≤ a = omega (arith, abs_is a)

pub loss_≤ : (a : ℤ) → loss a ≤ nat_abs a
loss_≤ a = omega (arith, abs_is a)

pub abs_neg : (a : ℤ) → nat_abs (neg_ℤ a) ≡ nat_abs a
abs_neg (pos zero) = refl
abs_neg (pos (suc n)) = refl
abs_neg (negsuc n) = refl

pub abs_mul : (a b : ℤ) → nat_abs (a *ℤ b) ≡ nat_abs a * nat_abs b
abs_mul (pos a) (pos b) = refl
abs_mul (pos a) (negsuc b) = abs_neg (pos (a * suc b))
abs_mul (negsuc a) (pos b) = abs_neg (pos (suc a * b))
abs_mul (negsuc a) (negsuc b) = refl

pub abs_add : (a b : ℤ) → nat_abs (a +ℤ b) ≤ nat_abs a + nat_abs b
abs_add a b = go (a +ℤ b) (add_is a b)
  where
    go : (c : ℤ) → gain c + (loss a + loss b) ≡ (gain a + gain b) + loss c → nat_abs c ≤ nat_abs a + nat_abs b
    go (pos n) e = omega (arith, abs_is a, abs_is b)
    go (negsuc n) e = omega (arith, abs_is a, abs_is b)

pub within_literal : {k : ℕ} {a : ℤ} → T (leb (nat_abs a) k) → Within k a
within_literal {k} {a} t = record { size = leb→le (nat_abs a) k t }

pub within_natural : {k n : ℕ} → n ≤ k → Within k (pos n)
within_natural h = record { size = h }

pub within_sum : {j k : ℕ} {a b : ℤ} → Within j a → Within k b → Within (j + k) (a +ℤ b)
within_sum {a} {b} h i = record { size = omega (arith, abs_add a b, h.size, i.size) }

pub within_negation : {k : ℕ} {a : ℤ} → Within k a → Within k (neg_ℤ a)
within_negation {a} h = record { size = omega (arith, abs_neg a, h.size) }

pub within_difference : {j k : ℕ} {a b : ℤ} → Within j a → Within k b → Within (j + k) (a -ℤ b)
within_difference h i = within_sum h (within_negation i)

pub within_product : {j k : ℕ} {a b : ℤ} → Within j a → Within k b → Within (j * k) (a *ℤ b)
within_product {a} {b} h i = record { size = rw (abs_mul a b) (mul-le-mul h.size i.size) }

pub within_wider : {j k : ℕ} {a : ℤ} → j ≤ k → Within j a → Within k a
within_wider i h = record { size = omega (arith, i, h.size) }

-- the same where both bounds are numerals, by computing
pub within_wider! : {j k : ℕ} {a : ℤ} → T (leb j k) → Within j a → Within k a
within_wider! {j} {k} t h = within_wider (leb→le j k t) h

-- ---- from and to the order
pub within_both : {k : ℕ} {a : ℤ} → neg_ℤ (pos k) ≤ℤ a → a ≤ℤ pos k → Within k a
within_both {k} {a = pos n} h i = record { size = omega (arith, le_in i) }
within_both {k} {a = negsuc n} h i = record { size = omega (arith, le? (neg (v (pos k))) (v (negsuc n)) h) }

pub within_high : {k : ℕ} {a : ℤ} → Within k a → a ≤ℤ pos k
within_high {k} {a} h = le! (v a) (v (pos k)) (omega (arith, h.size, abs_is a))

pub within_low : {k : ℕ} {a : ℤ} → Within k a → neg_ℤ (pos k) ≤ℤ a
within_low {k} {a} h = le! (neg (v (pos k))) (v a) (omega (arith, h.size, abs_is a))

-- a mean of two numbers, with weights t and m - t, is no larger than m times the larger
pub within_mean : (k m : ℕ) (a b t : ℤ) → Within k a → Within k b → pos 0 ≤ℤ t → t ≤ℤ pos m → Within (k * m) (a *ℤ t +ℤ b *ℤ (pos m -ℤ t))
within_mean k m a b t ha hb lo hi =
    let u = pos m -ℤ t in
    let hu : pos 0 ≤ℤ u = le! (v (pos 0)) (v (pos m) ⊖ v t) (omega (arith, zrules)) in
    let a_high = le? (v (a *ℤ t)) (v (pos k) ⊗ v t) (*ℤ-mono lo (within_high ha)) in
    let a_low = le? (neg (v (pos k)) ⊗ v t) (v (a *ℤ t)) (*ℤ-mono lo (within_low ha)) in
    let b_high = le? (v (b *ℤ u)) (v (pos k) ⊗ (v (pos m) ⊖ v t)) (*ℤ-mono hu (within_high hb)) in
    let b_low = le? (neg (v (pos k)) ⊗ (v (pos m) ⊖ v t)) (v (b *ℤ u)) (*ℤ-mono hu (within_low hb)) in
    within_both
    (le! (neg (v (pos (k * m)))) (v (a *ℤ t) ⊕ v (b *ℤ u)) (omega arith))
    (le! (v (a *ℤ t) ⊕ v (b *ℤ u)) (v (pos (k * m))) (omega arith))

-- ---- widths
mag_abs : (a : ℤ) → mag a ≤ nat_abs a
mag_abs (pos n) = omega arith
mag_abs (negsuc n) = omega arith

pub fits_within : {w : Width} {k : ℕ} {a : ℤ} → T (ltb k (2 ^ hbits w)) → Within k a → SFits w a
fits_within {w} {k} {a} t h = record { sfits = omega (arith, mag_abs a, h.size, ltb→lt k (2 ^ hbits w) t) }

pub fits_wider : {w : Width} {j k : ℕ} {a : ℤ} → T (ltb k (2 ^ hbits w)) → j ≤ k → Within j a → SFits w a
fits_wider t i h = fits_within t (within_wider i h)

-- from the bound that an element of a slice has
pub within_element : {k : ℕ} {a : ℤ} → mag a < k → Within k a
within_element {k} {a = pos n} h = record { size = omega arith }
within_element {k} {a = negsuc n} h = record { size = omega arith }

-- a linear expression fits where its value is in the width's range, which `omega` shows
pub fits! : (w : Width) (e : Pair) → e.p < 2 ^ hbits w + e.n → e.n ≤ 2 ^ hbits w + e.p → SFits w e.z
fits! w e hi lo = go e.z e.is
  where
    go : (z : ℤ) → gain z + e.n ≡ e.p + loss z → SFits w z
    go (pos k) q = record { sfits = omega arith }
    go (negsuc k) q = record { sfits = omega arith }
