-- What a signed test tells, and what it comes to from a fact.
use mathlib.Core.Path.{◌≡◌, refl, sym, ◌∙◌, ap, subst}
use mathlib.Core.Bool.{Bool, true, false, not}
use Prim.Native.Nat.{ℕ, suc, ◌≤◌, ◌<◌}
use native.Mathlib.Omega.{arith}
use lib.Dec.{T, leb, ltb, ltb→lt, nltb→le}
use borrow.Author.Tests.{le-leb, lt-leb, not-true, not-false}
use lib.IntN.{ℤ, pos, negsuc, neg_ℤ, nat_abs, ◌-ℤ◌, +ℤ_idl}
use lib.Signed.{◌≤ℤ◌, ◌<ℤ◌, le_z, lt_z}
use Rattle.integers.proofs.Pairs.{v, ◌⊖◌, lt?, le?}
use Rattle.integers.proofs.Bounds.{abs_is}

-- one test is the other's negation
leb_not : (a b : ℕ) → leb b a ≡ not (ltb a b)
leb_not a b = go (ltb a b) (ltb→lt a b) (nltb→le a b)
  where
    go : (t : Bool) → (T t → a < b) → (T (not t) → b ≤ a) → leb b a ≡ not t
    go true f g = lt-leb b a (f tt)
    go false f g = le-leb b a (g tt)

pub leZ_not : (a b : ℤ) → le_z b a ≡ not (lt_z a b)
leZ_not (pos a) (pos b) = leb_not a b
leZ_not (pos a) (negsuc b) = refl
leZ_not (negsuc a) (pos b) = refl
leZ_not (negsuc a) (negsuc b) = leb_not b a

-- from a test, as a branch leaves it, to the fact
pub leZ_true : {a b : ℤ} → le_z a b ≡ true → a ≤ℤ b
leZ_true e = record { le = subst T (sym e) tt }

pub ltZ_true : {a b : ℤ} → lt_z a b ≡ true → a <ℤ b
ltZ_true e = record { lt = subst T (sym e) tt }

pub ltZ_false : {a b : ℤ} → lt_z a b ≡ false → b ≤ℤ a
ltZ_false {a} {b} e = leZ_true (leZ_not a b ∙ ap not e)

pub leZ_false : {a b : ℤ} → le_z a b ≡ false → b <ℤ a
leZ_false {a} {b} e = ltZ_true (not-false (lt_z b a) (sym (leZ_not b a) ∙ e))

is_true : (t : Bool) → T t → t ≡ true
is_true true h = refl
is_true false h = absurd h

-- from the fact to the test
pub le_leZ : {a b : ℤ} → a ≤ℤ b → le_z a b ≡ true
le_leZ {a} {b} h = is_true (le_z a b) h.le

pub lt_ltZ : {a b : ℤ} → a <ℤ b → lt_z a b ≡ true
lt_ltZ {a} {b} h = is_true (lt_z a b) h.lt

pub lt_leZ : {a b : ℤ} → b <ℤ a → le_z a b ≡ false
lt_leZ {a} {b} h = leZ_not b a ∙ ap not (lt_ltZ h)

pub le_ltZ : {a b : ℤ} → b ≤ℤ a → lt_z a b ≡ false
le_ltZ {a} {b} h = not-true (lt_z a b) (sym (leZ_not a b) ∙ le_leZ h)

-- ---- a size is tested by two comparisons, `x < -k` and `x <= k`
pub size_below : (k : ℕ) (x : ℤ) → lt_z x (pos 0 -ℤ pos k) ≡ true → leb (nat_abs x) k ≡ false
size_below k x e = lt-leb (nat_abs x) k (omega (arith, lt? (v x) (v (pos 0) ⊖ v (pos k)) (ltZ_true e), abs_is x))

pub size_above : (k : ℕ) (x : ℤ) → lt_z x (pos 0 -ℤ pos k) ≡ false → le_z x (pos k) ≡ leb (nat_abs x) k
size_above k (pos n) e = refl
size_above k (negsuc n) e = sym (le-leb (suc n) k (omega (arith, le? (v (pos 0) ⊖ v (pos k)) (v (negsuc n)) (ltZ_false e))))

-- and a number from minus k on by `x < -k`
pub from_below : (k : ℕ) (x : ℤ) (t : Bool) → lt_z x (pos 0 -ℤ pos k) ≡ t → le_z (neg_ℤ (pos k)) x ≡ not t
from_below k x t e = leZ_not x (neg_ℤ (pos k)) ∙ ap not (ap (lt_z x) (sym (+ℤ_idl (neg_ℤ (pos k)))) ∙ e)
