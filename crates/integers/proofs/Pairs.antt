-- Laws of the definitions in specs/Pairs.antt.
use mathlib.Core.Path.{◌≡◌, refl, sym, ◌∙◌, ap}
use mathlib.Core.Bool.{Bool, true, false, not, cond}
use Prim.Native.Nat.{ℕ, zero, suc, ◌+◌, ◌*◌, ◌-◌, ◌≤◌, ◌<◌}
use native.Mathlib.Omega.{arith}
use lib.Dec.{T, ltb, leb→le, le→leb, ltb→lt, lt→ltb, nltb→le}
use lib.IntN.{ℤ, pos, negsuc, neg_ℤ, sub_ℕ, ◌+ℤ◌, ◌-ℤ◌, ◌*ℤ◌}
use lib.Signed.{◌≤ℤ◌, ◌<ℤ◌}
use Rattle.integers.specs.Pairs.{gain, loss}

-- ---- order and equality, as facts of ℕ
pub le_in : {a b : ℤ} → a ≤ℤ b → gain a + loss b ≤ gain b + loss a
le_in {a = pos a} {b = pos b} h = let k : a ≤ b = leb→le a b h.le in omega arith
le_in {a = pos a} {b = negsuc b} h = absurd h.le
le_in {a = negsuc a} {b = pos b} h = omega arith
le_in {a = negsuc a} {b = negsuc b} h = let k : b ≤ a = leb→le b a h.le in omega arith

pub le_out : {a b : ℤ} → gain a + loss b ≤ gain b + loss a → a ≤ℤ b
le_out {a = pos a} {b = pos b} h = record { le = le→leb a b (omega arith) }
le_out {a = pos a} {b = negsuc b} h = absurd (no a b h)
  where
    no : (a b : ℕ) → a + suc b ≤ 0 + 0 → ⊥
    no a b h = omega arith
le_out {a = negsuc a} {b = pos b} h = record { le = tt }
le_out {a = negsuc a} {b = negsuc b} h = record { le = le→leb b a (omega arith) }

pub lt_in : {a b : ℤ} → a <ℤ b → gain a + loss b < gain b + loss a
lt_in {a = pos a} {b = pos b} h = let k : a < b = ltb→lt a b h.lt in omega arith
lt_in {a = pos a} {b = negsuc b} h = absurd h.lt
lt_in {a = negsuc a} {b = pos b} h = omega arith
lt_in {a = negsuc a} {b = negsuc b} h = let k : b < a = ltb→lt b a h.lt in omega arith

pub lt_out : {a b : ℤ} → gain a + loss b < gain b + loss a → a <ℤ b
lt_out {a = pos a} {b = pos b} h = record { lt = lt→ltb a b (omega arith) }
lt_out {a = pos a} {b = negsuc b} h = absurd (no a b h)
  where
    no : (a b : ℕ) → a + suc b < 0 + 0 → ⊥
    no a b h = omega arith
lt_out {a = negsuc a} {b = pos b} h = record { lt = tt }
lt_out {a = negsuc a} {b = negsuc b} h = record { lt = lt→ltb b a (omega arith) }

pub eq_in : {a b : ℤ} → a ≡ b → gain a + loss b ≡ gain b + loss a
eq_in {a} {b} e = ap (λ (z : ℤ). gain a + loss z) (sym e) ∙ ap (λ (z : ℤ). gain z + loss a) e

pub eq_out : {a b : ℤ} → gain a + loss b ≡ gain b + loss a → a ≡ b
eq_out {a = pos a} {b = pos b} h = ap pos (omega arith)
eq_out {a = pos a} {b = negsuc b} h = absurd (no a b h)
  where
    no : (a b : ℕ) → a + suc b ≡ 0 + 0 → ⊥
    no a b h = omega arith
eq_out {a = negsuc a} {b = pos b} h = absurd (no a b h)
  where
    no : (a b : ℕ) → 0 + 0 ≡ b + suc a → ⊥
    no a b h = omega arith
eq_out {a = negsuc a} {b = negsuc b} h = ap negsuc (omega arith)

-- ---- the operations
sub_both : (a b : ℕ) → gain (sub_ℕ a b) + b ≡ a + loss (sub_ℕ a b)
sub_both a b = go (ltb a b) (ltb→lt a b) (nltb→le a b)
  where
    go : (t : Bool) → (T t → a < b) → (T (not t) → b ≤ a) → gain (cond t (negsuc (b - suc a)) (pos (a - b))) + b ≡
        a + loss (cond t (negsuc (b - suc a)) (pos (a - b)))
    go true f g = let h : a < b = f tt in omega arith
    go false f g = let h : b ≤ a = g tt in omega arith

pub neg_is : (a : ℤ) → gain (neg_ℤ a) + gain a ≡ loss a + loss (neg_ℤ a)
neg_is (pos zero) = refl
neg_is (pos (suc n)) = omega arith
neg_is (negsuc n) = omega arith

pub gain_negation : (a : ℤ) → gain (neg_ℤ a) ≡ loss a
gain_negation (pos zero) = refl
gain_negation (pos (suc n)) = refl
gain_negation (negsuc n) = refl

pub loss_negation : (a : ℤ) → loss (neg_ℤ a) ≡ gain a
loss_negation (pos zero) = refl
loss_negation (pos (suc n)) = refl
loss_negation (negsuc n) = refl

pub add_is : (a b : ℤ) → gain (a +ℤ b) + (loss a + loss b) ≡ (gain a + gain b) + loss (a +ℤ b)
add_is (pos a) (pos b) = omega arith
add_is (pos a) (negsuc b) = omega (arith, sub_both a (suc b))
add_is (negsuc a) (pos b) = omega (arith, sub_both b (suc a))
add_is (negsuc a) (negsuc b) = omega arith

neg_pos : (n : ℕ) → gain (neg_ℤ (pos n)) + n ≡ loss (neg_ℤ (pos n))
neg_pos zero = refl
neg_pos (suc n) = omega arith

pub mul_is : (a b : ℤ) → gain (a *ℤ b) + (gain a * loss b + loss a * gain b) ≡ (gain a * gain b + loss a * loss b) + loss (a *ℤ b)
mul_is (pos a) (pos b) = omega arith
mul_is (pos a) (negsuc b) = omega (arith, neg_pos (a * suc b))
mul_is (negsuc a) (pos b) = omega (arith, neg_pos (suc a * b))
mul_is (negsuc a) (negsuc b) = omega arith

-- ---- an integer with a difference of naturals that it is: what a proof writes for an expression
pub record Pair : Type 0 where
  pub z : ℤ
  pub p : ℕ
  pub n : ℕ
  pub is : gain z + n ≡ p + loss z

abbrev pub v : ℤ → Pair
v a = record { z = a; p = gain a; n = loss a; is = refl }

infixl 6 ◌⊕◌ ◌⊖◌
infixl 7 ◌⊗◌
pub add_law : (a b : Pair) → gain (a.z +ℤ b.z) + (a.n + b.n) ≡ (a.p + b.p) + loss (a.z +ℤ b.z)
add_law a b = omega (arith, add_is a.z b.z, a.is, b.is)

pub neg_law : (a : Pair) → gain (neg_ℤ a.z) + a.p ≡ a.n + loss (neg_ℤ a.z)
neg_law a = omega (arith, neg_is a.z, a.is)

pub sub_law : (a b : Pair) → gain (a.z -ℤ b.z) + (a.n + b.p) ≡ (a.p + b.n) + loss (a.z -ℤ b.z)
sub_law a b = omega (arith, add_is a.z (neg_ℤ b.z), neg_law b, a.is)

-- (gain - loss) is fixed by p - n: the product's two ways to say it
pub mul_law : (a b : Pair) → gain (a.z *ℤ b.z) + (a.p * b.n + a.n * b.p) ≡ (a.p * b.p + a.n * b.n) + loss (a.z *ℤ b.z)
mul_law a b = go (gain a.z) (loss a.z) (gain b.z) (loss b.z) a.p a.n b.p b.n _ _ (mul_is a.z b.z) a.is b.is
  where
    go : (A B C D p n q m X Y : ℕ) → X + (A * D + B * C) ≡ (A * C + B * D) + Y → A + n ≡ p + B → C + m ≡ q + D → X + (p * m + n * q) ≡ (p * q + n * m) + Y
    go A B C D p n q m X Y e f g = omega (arith, ap (λ (t : ℕ). t * C) f, ap (λ (t : ℕ). t * D) f, ap (λ (t : ℕ). p * t) g, ap (λ (t : ℕ). n * t) g)

abbrev pub ◌⊕◌ : Pair → Pair → Pair
a ⊕ b = record { z = a.z +ℤ b.z; p = a.p + b.p; n = a.n + b.n; is = add_law a b }

abbrev pub ◌⊖◌ : Pair → Pair → Pair
a ⊖ b = record { z = a.z -ℤ b.z; p = a.p + b.n; n = a.n + b.p; is = sub_law a b }

abbrev pub neg : Pair → Pair
neg a = record { z = neg_ℤ a.z; p = a.n; n = a.p; is = neg_law a }

abbrev pub ◌⊗◌ : Pair → Pair → Pair
a ⊗ b = record { z = a.z *ℤ b.z; p = a.p * b.p + a.n * b.n; n = a.p * b.n + a.n * b.p; is = mul_law a b }

-- ---- the goals
pub ring : (a b : Pair) → a.p + b.n ≡ b.p + a.n → a.z ≡ b.z
ring a b e = eq_out (omega (arith, a.is, b.is))

pub le! : (a b : Pair) → a.p + b.n ≤ b.p + a.n → a.z ≤ℤ b.z
le! a b e = le_out (omega (arith, a.is, b.is))

pub lt! : (a b : Pair) → a.p + b.n < b.p + a.n → a.z <ℤ b.z
lt! a b e = lt_out (omega (arith, a.is, b.is))

-- ---- the hypotheses
pub eq? : (a b : Pair) → a.z ≡ b.z → a.p + b.n ≡ b.p + a.n
eq? a b e = omega (arith, a.is, b.is, eq_in e)

pub le? : (a b : Pair) → a.z ≤ℤ b.z → a.p + b.n ≤ b.p + a.n
le? a b e = omega (arith, a.is, b.is, le_in e)

pub lt? : (a b : Pair) → a.z <ℤ b.z → a.p + b.n < b.p + a.n
lt? a b e = omega (arith, a.is, b.is, lt_in e)
