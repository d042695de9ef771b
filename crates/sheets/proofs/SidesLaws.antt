-- Where all members are right, a side's members sum to its sign times what stands on that side of 0 among the factors.
use mathlib.Core.Path.{◌≡◌, refl, sym, ◌∙◌, ap}
use mathlib.Core.Bool.{Bool, true, false, false≢true}
use mathlib.Core.List.{List, map}
use Prim.Native.Nat.{ℕ, zero, suc, ◌≤◌, ◌<◌}
use native.Mathlib.Omega.{arith}
use lib.Dec.{ltb, eqb}
use lib.IntN.{ℤ, pos, negsuc, neg_ℤ, nat_abs, ◌-ℤ◌}
use lib.ListN.{length, length-map, get_or-map}
use borrow.Author.Tests.{lt-ltb, eqb-true, eqb-false, eq-eqb, ne_eqb, le-leb, leb-true}
use Rattle.integers.specs.Pairs.{gain, loss}
use Rattle.integers.proofs.Pairs.{v, neg, ◌⊖◌, ring}
use Rattle.integers.proofs.Bounds.{abs_is}
use Rattle.integers.specs.Sums.{sum, sumℕ, when}
use Rattle.integers.proofs.Sums.{every_at, sum_ext, sum_naturals, sum_negation, sumℕ_ext}
use Rattle.rules.specs.declared.Side.{Side}
use Rattle.rules.specs.declared.Side.TheVariants.{Positive, Negative}
use Rattle.rules.specs.Quantities.{billion, weight_limit}
use Rattle.rules.specs.Share.{weight_at}
use Rattle.rules.specs.Sheet.{on, signed, agrees, right, number_at, side_total, side_sum, side_right}
use Rattle.laws.proofs.SheetLaws.{right_near, sign_follows}
use Rattle.share.specs.Weighing.{limited}
use Rattle.share.proofs.Weighing.{within_limit}
use Rattle.sheets.specs.Promises.{AllRight}

-- ---- one member
-- a number that agrees with a side is its size there with the side's sign; it has no size on the other
pub agreed : (s : Side) (f : ℤ) → agrees s f ≡ true → signed s (on s f) ≡ f
agreed Positive (pos n) e = refl
agreed Positive (negsuc n) e = absurd (false≢true e)
agreed Negative (pos n) e = let z : n ≡ 0 = omega (arith, leb-true n 0 e) in rw z
agreed Negative (negsuc n) e = refl

-- what has no size is 0
pub no_size : (f : ℤ) → nat_abs f ≡ 0 → f ≡ pos 0
no_size (pos n) e = ap pos e
no_size (negsuc n) e = absurd (omega arith)

module _ (T : ℕ) (W : Side → ℕ) where
  -- a right member's factor agrees with its side
  pub right_agrees : (s : Side) (p f : ℤ) → right T W p f ≡ true → 0 < on s p → agrees s f ≡ true
  right_agrees s p f e h = sign_follows s T (W s) p f h (sym (right_near s T W p f h) ∙ e)

  counts : (s : Side) (p f : ℤ) → right T W p f ≡ true → when (ltb 0 (on s p)) f ≡ signed s (on s f)
  counts Positive (pos zero) f e = rw (no_size f (eqb-true (nat_abs f) 0 e))
  counts Positive (pos (suc p)) f e = rw (lt-ltb 0 (suc p) (omega arith)) (sym (agreed Positive f (right_agrees Positive (pos (suc p)) f e (omega arith))))
  counts Positive (negsuc p) f e = off f (right_agrees Negative (negsuc p) f e (omega arith))
    where
      off : (f : ℤ) → agrees Negative f ≡ true → pos 0 ≡ pos (gain f)
      off (pos n) e = ap pos (omega (arith, leb-true n 0 e))
      off (negsuc n) e = refl
  counts Negative (pos zero) f e = rw (no_size f (eqb-true (nat_abs f) 0 e))
  counts Negative (pos (suc p)) f e = off f (right_agrees Positive (pos (suc p)) f e (omega arith))
    where
      off : (f : ℤ) → agrees Positive f ≡ true → pos 0 ≡ neg_ℤ (pos (loss f))
      off (pos n) e = refl
      off (negsuc n) e = absurd (false≢true e)
  counts Negative (negsuc p) f e = rw (lt-ltb 0 (suc p) (omega arith)) (sym (agreed Negative f (right_agrees Negative (negsuc p) f e (omega arith))))

-- ---- all members
pub size_at : (s : Side) (xs : List ℤ) (i : ℕ) → weight_at (map (on s) xs) i ≡ on s (number_at xs i)
size_at Positive xs i = get_or-map (on Positive) xs i (pos 0)
size_at Negative xs i = get_or-map (on Negative) xs i (pos 0)

pub total_is : (s : Side) (xs : List ℤ) → side_total s xs ≡ sumℕ (length xs) (λ i. on s (number_at xs i))
total_is s xs =
    ap (λ (n : ℕ). sumℕ n (weight_at (map (on s) xs))) (length-map xs (on s)) ∙ sumℕ_ext (length xs) _ _ (λ i _. size_at s xs i)

pub signed_sum : (s : Side) (n : ℕ) (g : ℕ → ℕ) → sum n (λ i. signed s (g i)) ≡ signed s (sumℕ n g)
signed_sum Positive n g = sum_naturals n g
signed_sum Negative n g = sum_negation n (λ i. pos (g i)) ∙ ap neg_ℤ (sum_naturals n g)

module _ (s : Side) (ps fs : List ℤ) (h : AllRight ps fs) where
  pub sums_to : side_sum s ps fs ≡ signed s (side_total s fs)
  sums_to =
      sum_ext (length ps) _ _ (λ i l. counts billion (λ s. side_total s ps) s (number_at ps i) (number_at fs i) (every_at (length ps) _ h.all i l))
      ∙ signed_sum s (length ps) (λ i. on s (number_at fs i))
      ∙ ap (λ (n : ℕ). signed s (sumℕ n (λ i. on s (number_at fs i)))) (sym h.long)
      ∙ ap (signed s) (sym (total_is s fs))

-- ---- the test of a side, from what is told of its sums
-- a sum that is told as one within the limit is that one
pub told_as : (n k : ℕ) → k ≤ weight_limit → limited n ≡ k → n ≡ k
told_as n k l e = sym (within_limit n (limited n) refl (omega arith)) ∙ e

as_told : (n k : ℕ) → k ≤ weight_limit → n ≡ k → limited n ≡ k
as_told n k l e = rw (e, le-leb k weight_limit l)

same_size : (s : Side) (m n : ℕ) → nat_abs (signed s m -ℤ signed s n) ≡ 0 → m ≡ n
same_size Positive m n e = omega (arith, abs_is (pos m -ℤ pos n), (v (pos m) ⊖ v (pos n)).is)
same_size Negative m n e = omega (arith, abs_is (neg_ℤ (pos m) -ℤ neg_ℤ (pos n)), (neg (v (pos m)) ⊖ neg (v (pos n))).is)

no_difference : (x : ℤ) → nat_abs (x -ℤ x) ≡ 0
no_difference x = ap nat_abs (ring (v x ⊖ v x) (v (pos 0)) (omega arith))

pub no_member : (s : Side) (ps fs : List ℤ) (r : ℕ) → r ≡ limited (side_total s ps) → r ≡ 0 → side_right s ps fs ≡ true
no_member s ps fs r e z = rw (eq-eqb (side_total s ps) 0 (told_as (side_total s ps) 0 (omega arith) (sym e ∙ z)))

module _ (s : Side) (ps fs : List ℤ) (h : AllRight ps fs) where
  pub some_member : (r q : ℕ) → r ≡ limited (side_total s ps) → (r ≡ 0 → ⊥) → q ≡ limited (side_total s fs) → eqb q billion ≡ side_right s ps fs
  some_member r q e d f =
      rw (ne_eqb (side_total s ps) 0 (λ z. d (e ∙ as_told (side_total s ps) 0 (omega arith) z)), sums_to s ps fs h) (go (eqb q billion) refl)
    where
      go : (t : Bool) → eqb q billion ≡ t → t ≡ eqb (nat_abs (signed s (side_total s fs) -ℤ signed s billion)) 0
      go true g =
          let z : side_total s fs ≡ billion = told_as (side_total s fs) billion (omega arith) (sym f ∙ eqb-true q billion g) in
          sym (eq-eqb (nat_abs (signed s (side_total s fs) -ℤ signed s billion)) 0 (ap (λ (n : ℕ). nat_abs (signed s n -ℤ signed s billion)) z
          ∙ no_difference (signed s billion)))
      go false g =
          sym (ne_eqb (nat_abs (signed s (side_total s fs) -ℤ signed s billion)) 0
          (λ z. eqb-false q billion g (f ∙ as_told (side_total s fs) billion (omega arith) (same_size s (side_total s fs) billion z))))
