-- Laws of a sheet's definitions: a right factor is the whole part of T·weight/W, with its side's sign, or one more where a remainder is left; its sign then
-- agrees by itself.
use mathlib.Core.Path.{◌≡◌, refl, sym, ◌∙◌, ap}
use mathlib.Core.Bool.{Bool, true, false, ◌&&◌, false≢true}
use Prim.Native.Nat.{ℕ, zero, suc, ◌+◌, ◌*◌, ◌<◌}
use native.Mathlib.Omega.{arith}
use native.Mathlib.Nat.{lt_of_mul-lt-mul_right}
use lib.Dec.{ltb}
use lib.IntN.{ℤ, pos, negsuc, neg_ℤ, nat_abs, ◌-ℤ◌, ◌*ℤ◌}
use borrow.Author.Tests.{ltb-true, lt-ltb, ltb-false, le-leb}
use Rattle.integers.specs.Pairs.{gain, loss}
use Rattle.integers.proofs.Pairs.{v, neg, ◌⊖◌, ◌⊗◌, ring, eq?}
use Rattle.integers.proofs.Bounds.{abs_neg}
use Rattle.integers.specs.Sums.{one}
use Rattle.integers.specs.Division.{Divided}
use Rattle.rules.specs.declared.Side.{Side}
use Rattle.rules.specs.declared.Side.TheVariants.{Positive, Negative}
use Rattle.rules.specs.Sheet.{on, signed, near, agrees, right}

-- ---- near, as facts of ℕ
module _ (T W : ℕ) (p f : ℤ) where
  abbrev difference : ℤ
  difference = f *ℤ pos W -ℤ pos T *ℤ p

  apart : gain difference + (loss f * W + T * gain p) ≡ gain f * W + T * loss p + loss difference
  apart = omega (arith, (v f ⊗ v (pos W) ⊖ v (pos T) ⊗ v p).is)

  pub near_in : near T W p f ≡ true → (gain f * W + T * loss p < loss f * W + T * gain p + W) × (loss f * W + T * gain p < gain f * W + T * loss p + W)
  near_in e = go difference apart (ltb-true (nat_abs difference) W e)
    where
      go : (z : ℤ) → gain z + (loss f * W + T * gain p) ≡ gain f * W + T * loss p + loss z → nat_abs z < W →
          (gain f * W + T * loss p < loss f * W + T * gain p + W) × (loss f * W + T * gain p < gain f * W + T * loss p + W)
      go (pos k) e l = (omega arith, omega arith)
      go (negsuc k) e l = (omega arith, omega arith)

  pub near_out : gain f * W + T * loss p < loss f * W + T * gain p + W → loss f * W + T * gain p < gain f * W + T * loss p + W → near T W p f ≡ true
  near_out h k = lt-ltb (nat_abs difference) W (go difference apart)
    where
      go : (z : ℤ) → gain z + (loss f * W + T * gain p) ≡ gain f * W + T * loss p + loss z → nat_abs z < W
      go (pos n) e = omega arith
      go (negsuc n) e = omega arith

-- turned round, performance and factor are as near
near_turned : (T W : ℕ) (p f : ℤ) → near T W (neg_ℤ p) f ≡ near T W p (neg_ℤ f)
near_turned T W p f =
    ap (λ (n : ℕ). ltb n W) (sym (abs_neg (f *ℤ pos W -ℤ pos T *ℤ neg_ℤ p))
    ∙ ap nat_abs (ring (neg (v f ⊗ v (pos W) ⊖ v (pos T) ⊗ neg (v p))) (neg (v f) ⊗ v (pos W) ⊖ v (pos T) ⊗ v p) (omega arith)))

-- ---- THE SIGN NEEDS NO TEST: a whole number on the wrong side of 0 is more than one from its exact share
pub sign_follows : (s : Side) (T W : ℕ) (p f : ℤ) → 0 < on s p → near T W p f ≡ true → agrees s f ≡ true
sign_follows Positive T W (pos p) (pos f) h e = le-leb 0 f (omega arith)
sign_follows Positive T W (pos p) (negsuc f) h e = absurd (omega (arith, (near_in T W (pos p) (negsuc f) e).1))
sign_follows Positive T W (negsuc p) f h e = absurd (omega arith)
sign_follows Negative T W (pos p) f h e = absurd (omega arith)
sign_follows Negative T W (negsuc p) (pos zero) h e = refl
sign_follows Negative T W (negsuc p) (pos (suc f)) h e = absurd (omega (arith, (near_in T W (negsuc p) (pos (suc f)) e).0))
sign_follows Negative T W (negsuc p) (negsuc f) h e = refl

-- so a member on a side is right where its factor is near
pub right_near : (s : Side) (T : ℕ) (W : Side → ℕ) (p f : ℤ) → 0 < on s p → right T W p f ≡ near T (W s) p f
right_near s T W p f h = both s p h ∙ alone (near T (W s) p f) (agrees s f) (sign_follows s T (W s) p f h)
  where
    both : (s : Side) (p : ℤ) → 0 < on s p → right T W p f ≡ (near T (W s) p f && agrees s f)
    both Positive (pos zero) h = absurd (omega arith)
    both Positive (pos (suc p)) h = refl
    both Positive (negsuc p) h = absurd (omega arith)
    both Negative (pos p) h = absurd (omega arith)
    both Negative (negsuc p) h = refl

    alone : (a b : Bool) → (a ≡ true → b ≡ true) → a && b ≡ a
    alone true b h = h refl
    alone false b h = refl

-- a number on a side is its size with the side's sign
pub signed_on : (s : Side) (x : ℤ) → 0 < on s x → signed s (on s x) ≡ x
signed_on Positive (pos n) h = refl
signed_on Positive (negsuc n) h = absurd (omega arith)
signed_on Negative (pos n) h = absurd (omega arith)
signed_on Negative (negsuc n) h = refl

-- ---- the whole part, or one more where a remainder is left
module _ (s : Side) (q r : ℕ) where
  pub record WholeOrMore (f : ℤ) : Type 0 where
    pub more : Bool
    pub is : f ≡ signed s (q + one more)
    pub left : more ≡ true → 0 < r

module _ (T W w : ℕ) {q r : ℕ} (d : Divided (T * w) W q r) where
  -- a size as near
  which : (a : ℕ) → a * W < T * w + W → T * w < a * W + W → WholeOrMore Positive q r (pos a)
  which a h k = go (ltb q a) refl
    where
      low : q < a + 1
      low = lt_of_mul-lt-mul_right W {m = q} {n = a + 1} (omega (arith, d.is))

      high : a < q + 2
      high = lt_of_mul-lt-mul_right W {m = a} {n = q + 2} (omega (arith, d.is, d.small))

      go : (t : Bool) → ltb q a ≡ t → WholeOrMore Positive q r (pos a)
      go true e =
          let z : a ≡ q + 1 = omega (arith, ltb-true q a e, high) in
          record { more = true; is = ap pos z; left = λ _. omega (arith, d.is, ap (λ (n : ℕ). n * W) z) }
      go false e = record { more = false; is = ap pos (omega (arith, ltb-false q a e, low)); left = λ (i : false ≡ true). absurd (false≢true i) }

  near_positive : (f : ℤ) → near T W (pos w) f ≡ true → WholeOrMore Positive q r f
  near_positive (pos a) e = let n = near_in T W (pos w) (pos a) e in which a (omega (arith, n.0)) (omega (arith, n.1))
  near_positive (negsuc a) e = absurd (omega (arith, (near_in T W (pos w) (negsuc a) e).1))

  positive_near : (t : Bool) → (t ≡ true → 0 < r) → near T W (pos w) (pos (q + one t)) ≡ true
  positive_near true h = let l = h refl in near_out T W (pos w) (pos (q + 1)) (omega (arith, d.is, d.small)) (omega (arith, d.is, d.small))
  positive_near false h = near_out T W (pos w) (pos (q + 0)) (omega (arith, d.is, d.small)) (omega (arith, d.is, d.small))

  -- on either side
  pub near_whole : (s : Side) (f : ℤ) → near T W (signed s w) f ≡ true → WholeOrMore s q r f
  near_whole Positive f e = near_positive f e
  near_whole Negative f e =
      let n = near_positive (neg_ℤ f) (sym (near_turned T W (pos w) f) ∙ e) in
      record {
        more = n.more;
        is = ring (v f) (neg (v (pos (q + one n.more)))) (omega (arith, eq? (neg (v f)) (v (pos (q + one n.more))) n.is));
        left = n.left;
      }

  pub whole_near : (s : Side) (t : Bool) → (t ≡ true → 0 < r) → near T W (signed s w) (signed s (q + one t)) ≡ true
  whole_near Positive t h = positive_near t h
  whole_near Negative t h =
      near_turned T W (pos w) (neg_ℤ (pos (q + one t)))
      ∙ ap (near T W (pos w)) (ring (neg (neg (v (pos (q + one t))))) (v (pos (q + one t))) (omega arith))
      ∙ positive_near t h
