-- How far multiples of W are from numbers, and when such distances add up to the least: if at one price a unit each is best for itself.
use mathlib.Core.Path.{◌≡◌, refl, ap}
use mathlib.Core.Bool.{Bool, true, false, not}
use Prim.Native.Nat.{ℕ, zero, suc, ◌+◌, ◌*◌, ◌-◌, ◌≤◌, ◌<◌}
use native.Mathlib.Omega.{arith}
use native.Mathlib.Nat.{mul-le-mul_left}
use lib.Dec.{ltb}
use lib.IntN.{ℤ, pos, negsuc, nat_abs, ◌-ℤ◌, ◌*ℤ◌}
use borrow.Author.Tests.{ltb-true, ltb-false}
use Rattle.integers.specs.Pairs.{gain, loss}
use Rattle.integers.proofs.Pairs.{v, ◌⊖◌, ◌⊗◌, eq_in}
use Rattle.integers.proofs.Bounds.{abs_is}
use Rattle.integers.specs.Sums.{one, sum, sumℕ}
use Rattle.integers.proofs.Sums.{sum_parts}
use Rattle.integers.specs.Division.{Divided}

-- how far b times W is from x
abbrev pub apart : ℕ → ℕ → ℤ → ℕ
apart W x b = nat_abs (b *ℤ pos W -ℤ pos x)

-- at a price of W - 2·bound a unit, the distance D of the amount a is no worse than the distance E of the amount p - m
abbrev pub NoWorse : (W bound D a E p m : ℕ) → Type 0
NoWorse W bound D a E p m = D + (p * W + 2 * bound * (a + m)) ≤ E + ((a + m) * W + 2 * bound * p)

module _ (W x : ℕ) where
  -- a distance is no smaller than either difference
  apart_over : (b : ℤ) → gain b * W ≤ apart W x b + (loss b * W + x)
  apart_over b = omega (arith, abs_is (b *ℤ pos W -ℤ pos x), (v b ⊗ v (pos W) ⊖ v (pos x)).is)

  apart_under : (b : ℤ) → loss b * W + x ≤ apart W x b + gain b * W
  apart_under b = omega (arith, abs_is (b *ℤ pos W -ℤ pos x), (v b ⊗ v (pos W) ⊖ v (pos x)).is)

  module _ {q r : ℕ} (d : Divided x W q r) where
    -- the whole part is the remainder away, and one more the rest of W
    apart_is : (t : Bool) → apart W x (pos (q + one t)) + one t * r ≡ one t * W + one (not t) * r
    apart_is t = go t (pos (q + one t) *ℤ pos W -ℤ pos x) (omega (arith, (v (pos (q + one t)) ⊗ v (pos W) ⊖ v (pos x)).is))
      where
        go : (t : Bool) (z : ℤ) → gain z + x ≡ (q + one t) * W + loss z → nat_abs z + one t * r ≡ one t * W + one (not t) * r
        go true (pos k) e = omega (arith, d.is, d.small)
        go true (negsuc k) e = absurd (omega (arith, d.is, d.small))
        go false (pos k) e = omega (arith, d.is)
        go false (negsuc k) e = omega (arith, d.is)

    module _ (bound : ℕ) (few : bound ≤ W) (b : ℤ) where
      abbrev pub NoBetter : Bool → Type 0
      NoBetter t = NoWorse W bound (apart W x (pos (q + one t))) (q + one t) (apart W x b) (gain b) (loss b)

      -- k above one more, and k below the whole part
      over : (k : ℕ) → gain b ≡ loss b + q + 1 + k → (t : Bool) → (t ≡ true → bound ≤ r) → (t ≡ false → r ≤ bound) → NoBetter t
      over k e true up down =
          omega (arith, ap (λ (z : ℕ). z * W) e, ap (λ (z : ℕ). bound * z) e, apart_over b, apart_is true, d.is, mul-le-mul_left k few, up refl)
      over k e false up down =
          omega (arith, ap (λ (z : ℕ). z * W) e, ap (λ (z : ℕ). bound * z) e, apart_over b, apart_is false, d.is, mul-le-mul_left k few, down refl)

      under : (k : ℕ) → loss b + q ≡ gain b + k → (t : Bool) → (t ≡ true → bound ≤ r) → (t ≡ false → r ≤ bound) → NoBetter t
      under k e true up down =
          omega (arith, ap (λ (z : ℕ). z * W) e, ap (λ (z : ℕ). bound * z) e, apart_under b, apart_is true, d.is, mul-le-mul_left k few, up refl)
      under k e false up down =
          omega (arith, ap (λ (z : ℕ). z * W) e, ap (λ (z : ℕ). bound * z) e, apart_under b, apart_is false, d.is, mul-le-mul_left k few, down refl)

      -- so nothing is better than one more where the remainder is at the bound or above, and than the whole part where it is at the bound or below
      pub best_at_a_price : (t : Bool) → (t ≡ true → bound ≤ r) → (t ≡ false → r ≤ bound) → NoBetter t
      best_at_a_price t up down = go (ltb (loss b + q) (gain b)) refl
        where
          go : (s : Bool) → ltb (loss b + q) (gain b) ≡ s → NoBetter t
          go true l = over (gain b - (loss b + q + 1)) (omega (arith, ltb-true (loss b + q) (gain b) l)) t up down
          go false l = under (loss b + q - gain b) (omega (arith, ltb-false (loss b + q) (gain b) l)) t up down

-- what is no worse for each at one price is no worse in all, of equal sums
module _ (W bound : ℕ) (own a other : ℕ → ℕ) (b : ℕ → ℤ) where
  together : (n : ℕ) → ((i : ℕ) → i < n → NoWorse W bound (own i) (a i) (other i) (gain (b i)) (loss (b i))) →
      NoWorse W bound (sumℕ n own) (sumℕ n a) (sumℕ n other) (sumℕ n (λ i. gain (b i))) (sumℕ n (λ i. loss (b i)))
  unfolding sumℕ
  together zero h = omega arith
  together (suc n) h = omega (arith, together n (λ i l. h i (omega arith)), h n (omega arith))

  pub no_worse_in_all : (n : ℕ) → ((i : ℕ) → i < n → NoWorse W bound (own i) (a i) (other i) (gain (b i)) (loss (b i))) → sum n b ≡ pos (sumℕ n a) →
      sumℕ n own ≤ sumℕ n other
  no_worse_in_all n h e =
      let s : sumℕ n a + sumℕ n (λ i. loss (b i)) ≡ sumℕ n (λ i. gain (b i)) = omega (arith, sum_parts n b, eq_in e) in
      omega (arith, together n h, ap (λ (z : ℕ). z * W) s, ap (λ (z : ℕ). bound * z) s)
