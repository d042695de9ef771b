-- The record folded over a strip: its lowest and highest are points of the strip with no point beyond them, and its last is the last point.
-- Since points are in the order of their deviations, the fold of the points is the point of the deviations' fold.
use mathlib.Core.Path.{◌≡◌, refl, ap, ◌∙◌}
use mathlib.Core.Bool.{Bool, true, false, cond}
use mathlib.Core.Logic.{◌⊎◌, inl, inr}
use Prim.Native.Nat.{ℕ, zero, suc, ◌≤◌, ◌<◌, zero-le}
use native.Mathlib.Nat.{le_refl, le-suc, le_trans, le_antisymm, le_of_suc-le-suc, eq-or-lt_of_le}
use lib.Dec.{T}
use lib.IntN.{ℤ}
use lib.Signed.{lt_z, ◌≤ℤ◌, ≤ℤ_refl}
use lib.Ieee.{Float, le}
use Rattle.integers.specs.Bounds.{Within}
use Rattle.integers.proofs.Order.{≤ℤ-trans, <ℤ-≤ℤ}
use Rattle.integers.proofs.Tests.{ltZ_true, ltZ_false, le_ltZ}
use Rattle.rules.specs.Quantities.{deviation_limit}
use Rattle.rules.specs.Strip.{megawatts, folded}
use Rattle.laws.proofs.StripOrder.{points_in_order, points_keep_order}

-- ---- of the deviations up to t = n, the one that a strict order puts before the others
unfoldable pub first_of : (ℤ → ℤ → Bool) → ℕ → (ℕ → ℤ) → ℤ
first_of before zero d = d 0
first_of before (suc n) d = cond (before (d (suc n)) (first_of before n d)) (d (suc n)) (first_of before n d)

abbrev pub lowest_of : ℕ → (ℕ → ℤ) → ℤ
lowest_of = first_of lt_z

abbrev pub highest_of : ℕ → (ℕ → ℤ) → ℤ
highest_of = first_of (λ a b. lt_z b a)

-- what the laws use of the order
record Strict (before : ℤ → ℤ → Bool) : Type 0 where
  none : (a : ℤ) → before a a ≡ false
  past : (a b c : ℤ) → before a b ≡ true → before c b ≡ false → before c a ≡ false

rising : Strict lt_z
rising = record { none = λ a. le_ltZ (≤ℤ_refl a); past = past }
  where
    past : (a b c : ℤ) → lt_z a b ≡ true → lt_z c b ≡ false → lt_z c a ≡ false
    past a b c e f = let l : a ≤ℤ b = <ℤ-≤ℤ (ltZ_true e) in let k : b ≤ℤ c = ltZ_false f in le_ltZ (≤ℤ-trans l k)

falling : Strict (λ a b. lt_z b a)
falling = record { none = λ a. le_ltZ (≤ℤ_refl a); past = past }
  where
    past : (a b c : ℤ) → lt_z b a ≡ true → lt_z b c ≡ false → lt_z a c ≡ false
    past a b c e f = let l : b ≤ℤ a = <ℤ-≤ℤ (ltZ_true e) in let k : c ≤ℤ b = ltZ_false f in le_ltZ (≤ℤ-trans k l)

module _ (before : ℤ → ℤ → Bool) (d : ℕ → ℤ) where
  -- it is one of them, since each step keeps it or takes the new one
  first_met : (n : ℕ) → (t : ℕ) × (t ≤ n) × (first_of before n d ≡ d t)
  unfolding first_of
  first_met zero = (0, zero-le, refl)
  first_met (suc n) = go (before (d (suc n)) (first_of before n d)) (first_met n)
    where
      go : (b : Bool) → (t : ℕ) × (t ≤ n) × (first_of before n d ≡ d t) → (t : ℕ) × (t ≤ suc n) × (cond b (d (suc n)) (first_of before n d) ≡ d t)
      go true m = (suc n, le_refl (suc n), refl)
      go false m = (m.0, le_trans m.1 (le-suc n), m.2)

  pub first_within : (n k : ℕ) → ((t : ℕ) → t ≤ n → Within k (d t)) → Within k (first_of before n d)
  first_within n k h = let m = first_met n in rw m.2 (h m.0 m.1)

  -- and none of them comes before it
  first_bounds : Strict before → (n t : ℕ) → t ≤ n → before (d t) (first_of before n d) ≡ false
  unfolding first_of
  first_bounds s zero t l = rw (le_antisymm l zero-le) (s.none (d 0))
  first_bounds s (suc n) t l = go (before (d (suc n)) (first_of before n d)) refl (eq-or-lt_of_le l) (first_bounds s n t)
    where
      go : (b : Bool) → before (d (suc n)) (first_of before n d) ≡ b → (t ≡ suc n) ⊎ (t < suc n) → (t ≤ n → before (d t) (first_of before n d) ≡ false) →
          before (d t) (cond b (d (suc n)) (first_of before n d)) ≡ false
      go true e (inl p) ih = rw p (s.none (d (suc n)))
      go true e (inr q) ih = s.past (d (suc n)) (first_of before n d) (d t) e (ih (le_of_suc-le-suc q))
      go false e (inl p) ih = rw p e
      go false e (inr q) ih = ih (le_of_suc-le-suc q)

-- so the lowest is no higher, and the highest no lower
pub lowest_low : (d : ℕ → ℤ) (n t : ℕ) → t ≤ n → lowest_of n d ≤ℤ d t
lowest_low d n t l = ltZ_false (first_bounds lt_z d rising n t l)

pub highest_high : (d : ℕ → ℤ) (n t : ℕ) → t ≤ n → d t ≤ℤ highest_of n d
highest_high d n t l = ltZ_false (first_bounds (λ a b. lt_z b a) d falling n t l)

-- ---- the fold of the points
module _ (d : ℕ → ℤ) where
  abbrev point : ℕ → Float
  point t = megawatts (d t)

  chosen : (b : Bool) (a c : ℤ) → cond b (megawatts a) (megawatts c) ≡ megawatts (cond b a c)
  chosen true a c = refl
  chosen false a c = refl

  -- the lowest point is the lowest deviation's
  pub lowest_is : (n : ℕ) → ((t : ℕ) → t ≤ n → Within deviation_limit (d t)) → (folded n point).lowest ≡ megawatts (lowest_of n d)
  unfolding folded first_of
  lowest_is zero h = refl
  lowest_is (suc n) h =
      let below : (t : ℕ) → t ≤ n → Within deviation_limit (d t) = λ t l. h t (le_trans l (le-suc n)) in
      rw (lowest_is n below, points_in_order (h (suc n) (le_refl (suc n))) (first_within lt_z d n deviation_limit below))
      (chosen (lt_z (d (suc n)) (lowest_of n d)) (d (suc n)) (lowest_of n d))

  -- and the highest point the highest deviation's
  pub highest_is : (n : ℕ) → ((t : ℕ) → t ≤ n → Within deviation_limit (d t)) → (folded n point).highest ≡ megawatts (highest_of n d)
  unfolding folded first_of
  highest_is zero h = refl
  highest_is (suc n) h =
      let below : (t : ℕ) → t ≤ n → Within deviation_limit (d t) = λ t l. h t (le_trans l (le-suc n)) in
      rw (highest_is n below, points_in_order (first_within (λ a b. lt_z b a) d n deviation_limit below) (h (suc n) (le_refl (suc n))))
      (chosen (lt_z (highest_of n d) (d (suc n))) (d (suc n)) (highest_of n d))

-- ---- what the folded record tells of the points up to t = n
pub record StripBounds (n : ℕ) (x : ℕ → Float) : Type 0 where
  pub lowest_met : (t : ℕ) × (t ≤ n) × ((folded n x).lowest ≡ x t)
  pub lowest_bounds : (t : ℕ) → t ≤ n → T (le (folded n x).lowest (x t))
  pub highest_met : (t : ℕ) × (t ≤ n) × ((folded n x).highest ≡ x t)
  pub highest_bounds : (t : ℕ) → t ≤ n → T (le (x t) (folded n x).highest)
  pub last_is : (folded n x).last ≡ x n

fold_ends : (n : ℕ) (x : ℕ → Float) → (folded n x).last ≡ x n
unfolding folded
fold_ends zero x = refl
fold_ends (suc n) x = refl

-- the lowest and the highest are points of the strip with no point beyond them, and the last is its last point
pub strip_bounds : (n : ℕ) (d : ℕ → ℤ) → ((t : ℕ) → t ≤ n → Within deviation_limit (d t)) → StripBounds n (λ t. megawatts (d t))
strip_bounds n d h =
    let low = first_met lt_z d n in
    let high = first_met (λ a b. lt_z b a) d n in
    record {
      lowest_met = (low.0, low.1, lowest_is d n h ∙ ap megawatts low.2);
      lowest_bounds = λ t l.
          rw (lowest_is d n h) (points_keep_order (first_within lt_z d n deviation_limit h) (h t l) (lowest_low d n t l));
      highest_met = (high.0, high.1, highest_is d n h ∙ ap megawatts high.2);
      highest_bounds = λ t l.
          rw (highest_is d n h) (points_keep_order (h t l) (first_within (λ a b. lt_z b a) d n deviation_limit h) (highest_high d n t l));
      last_is = fold_ends n (λ t. megawatts (d t));
    }
