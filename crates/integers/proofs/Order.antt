-- The order and the ring of ℤ.
use mathlib.Core.Path.{◌≡◌}
use native.Mathlib.Nat.{mul-le-mul_right}
use native.Mathlib.Omega.{arith}
use lib.IntN.{ℤ, pos, negsuc, neg_ℤ, ◌+ℤ◌, ◌*ℤ◌}
use lib.Signed.{◌≤ℤ◌, ◌<ℤ◌}
use Rattle.integers.proofs.Pairs.{v, ◌⊕◌, ◌⊗◌, neg, ring, le!, le_in, le_out, lt_in, lt_out, eq_in, eq_out}

-- ---- ring (sums: +ℤ-assoc, +ℤ-comm, +ℤ-idl, +ℤ-idr, +ℤ-invr of lib.IntN)
pub *ℤ-assoc : (a b c : ℤ) → (a *ℤ b) *ℤ c ≡ a *ℤ (b *ℤ c)
*ℤ-assoc a b c = ring ((v a ⊗ v b) ⊗ v c) (v a ⊗ (v b ⊗ v c)) (omega arith)

pub *ℤ-+ℤ : (a b c : ℤ) → a *ℤ (b +ℤ c) ≡ a *ℤ b +ℤ a *ℤ c
*ℤ-+ℤ a b c = ring (v a ⊗ (v b ⊕ v c)) (v a ⊗ v b ⊕ v a ⊗ v c) (omega arith)

pub +ℤ-*ℤ : (a b c : ℤ) → (a +ℤ b) *ℤ c ≡ a *ℤ c +ℤ b *ℤ c
+ℤ-*ℤ a b c = ring ((v a ⊕ v b) ⊗ v c) (v a ⊗ v c ⊕ v b ⊗ v c) (omega arith)

pub *ℤ-negℤ : (a b : ℤ) → a *ℤ neg_ℤ b ≡ neg_ℤ (a *ℤ b)
*ℤ-negℤ a b = ring (v a ⊗ neg (v b)) (neg (v a ⊗ v b)) (omega arith)

-- two sums of two, taken crosswise
pub +ℤ-cross : (a b c d : ℤ) → (a +ℤ b) +ℤ (c +ℤ d) ≡ (a +ℤ c) +ℤ (b +ℤ d)
+ℤ-cross a b c d = ring ((v a ⊕ v b) ⊕ (v c ⊕ v d)) ((v a ⊕ v c) ⊕ (v b ⊕ v d)) (omega arith)

-- ---- order
-- the rules by which `omega (arith, zrules)` reads `≤ℤ`, `<ℤ` and `≡` of single integers
pub ruleset zrules = (le_in, lt_in, eq_in, le_out, lt_out, eq_out)

pub ≤ℤ-trans : {a b c : ℤ} → a ≤ℤ b → b ≤ℤ c → a ≤ℤ c
≤ℤ-trans {a} {b} {c} h k = omega (arith, zrules)

pub ≤ℤ-<ℤ-trans : {a b c : ℤ} → a ≤ℤ b → b <ℤ c → a <ℤ c
≤ℤ-<ℤ-trans {a} {b} {c} h k = omega (arith, zrules)

pub <ℤ-≤ℤ : {a b : ℤ} → a <ℤ b → a ≤ℤ b
<ℤ-≤ℤ {a} {b} h = omega (arith, zrules)

pub ≤ℤ-antisym : {a b : ℤ} → a ≤ℤ b → b ≤ℤ a → a ≡ b
≤ℤ-antisym {a} {b} h k = eq_out (omega (arith, zrules))

pub +ℤ-mono : {a b c d : ℤ} → a ≤ℤ b → c ≤ℤ d → (a +ℤ c) ≤ℤ (b +ℤ d)
+ℤ-mono {a} {b} {c} {d} h k = le! (v a ⊕ v c) (v b ⊕ v d) (omega (arith, zrules))

-- a product by what is not negative keeps the order
pub *ℤ-mono : {a b c : ℤ} → pos 0 ≤ℤ c → a ≤ℤ b → (a *ℤ c) ≤ℤ (b *ℤ c)
*ℤ-mono {a} {b} {c = pos n} h k = le! (v a ⊗ v (pos n)) (v b ⊗ v (pos n)) (omega (arith, mul-le-mul_right n (le_in k)))
*ℤ-mono {a} {b} {c = negsuc n} h k = absurd h.le
