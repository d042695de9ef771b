-- Laws of the definitions in specs/Nearest.antt.
use mathlib.Core.Path.{◌≡◌, refl, sym, ap}
use Prim.Native.Nat.{ℕ, zero, suc, ◌+◌, ◌*◌, ◌-◌, ◌/◌, ◌≤◌, ◌<◌}
use native.Mathlib.Nat.{div-lt_iff_lt-mul, div-mul-le_self, lt-div-mul-add, mul-le-mul_left}
use native.Mathlib.Omega.{arith}
use lib.IntN.{ℤ, pos, negsuc, neg_ℤ, nat_abs, ◌+ℤ◌, ◌-ℤ◌, ◌*ℤ◌}
use lib.Signed.{◌≤ℤ◌, ◌<ℤ◌, quot_z}
use Rattle.integers.proofs.Pairs.{lt_in, ring, le!, le?, v, neg, ◌⊖◌, ◌⊗◌}
use Rattle.integers.specs.Bounds.{Within}
use Rattle.integers.proofs.Bounds.{within_both, within_high, within_low, within_natural, within_negation, abs_neg}
use Rattle.integers.proofs.Sums.{none_below}
use Rattle.integers.proofs.Division.{quotient}
use Rattle.integers.specs.Nearest.{nearest, nearestℕ}

le_suc : (b : ℕ) → 1 ≤ suc b
le_suc b = omega arith

-- ---- by the sign
pub nearest_pos : (n : ℤ) (d : ℕ) → pos 0 ≤ℤ n → nearest n d ≡ pos (nearestℕ (nat_abs n) d)
nearest_pos (pos a) d h = refl
nearest_pos (negsuc a) d h = absurd h.le

pub nearest_neg : (n : ℤ) (d : ℕ) → n <ℤ pos 0 → nearest n d ≡ neg_ℤ (pos (nearestℕ (nat_abs n) d))
nearest_neg (pos a) d h = none_below a (omega (arith, lt_in h))
nearest_neg (negsuc a) d h = refl

-- ---- at most half of d away, and at a half on the far side
module _ (a d : ℕ) (hd : 0 < d) where
  pub nearestℕ_low : 2 * (d * nearestℕ a d) ≤ 2 * a + d
  nearestℕ_low = omega (arith, div-mul-le_self (2 * a + d) (2 * d))

  pub nearestℕ_high : 2 * a < 2 * (d * nearestℕ a d) + d
  nearestℕ_high = let h : 0 < 2 * d = omega arith in omega (arith, lt-div-mul-add {a = 2 * a + d} h)

  -- no other number is so near
  pub nearestℕ_only : (q : ℕ) → 2 * (d * q) ≤ 2 * a + d → 2 * a < 2 * (d * q) + d → nearestℕ a d ≡ q
  nearestℕ_only q low high = quotient {r = 2 * a + d - 2 * (d * q)} (record { is = omega arith; small = omega arith })

  -- the nearest is within k where a is within d times k
  pub nearestℕ_≤ : (k : ℕ) → a ≤ d * k → nearestℕ a d ≤ k
  nearestℕ_≤ k h =
      let l : nearestℕ a d < k + 1 = (div-lt_iff_lt-mul {k = 2 * d} {x = 2 * a + d} {y = k + 1} (omega arith)).1 (omega arith) in
      omega arith

pub nearest_close : (n : ℤ) (d : ℕ) → 0 < d → Within d (pos 2 *ℤ n -ℤ pos 2 *ℤ (pos d *ℤ nearest n d))
nearest_close (pos a) d hd =
    within_both
    (le! (neg (v (pos d))) (v (pos 2) ⊗ v (pos a) ⊖ v (pos 2) ⊗ (v (pos d) ⊗ v (pos (nearestℕ a d)))) (omega (arith, nearestℕ_low a d hd)))
    (le! (v (pos 2) ⊗ v (pos a) ⊖ v (pos 2) ⊗ (v (pos d) ⊗ v (pos (nearestℕ a d)))) (v (pos d)) (omega (arith, nearestℕ_high a d hd)))
nearest_close (negsuc a) d hd =
    within_both
    (le! (neg (v (pos d))) (v (pos 2) ⊗ v (negsuc a) ⊖ v (pos 2) ⊗ (v (pos d) ⊗ neg (v (pos (nearestℕ (suc a) d)))))
    (omega (arith, nearestℕ_high (suc a) d hd)))
    (le! (v (pos 2) ⊗ v (negsuc a) ⊖ v (pos 2) ⊗ (v (pos d) ⊗ neg (v (pos (nearestℕ (suc a) d))))) (v (pos d)) (omega (arith, nearestℕ_low (suc a) d hd)))

-- a half goes away from zero: |n| is below |q| and a half
pub nearest_away : (n : ℤ) (d : ℕ) → 0 < d → 2 * nat_abs n < 2 * (d * nat_abs (nearest n d)) + d
nearest_away (pos a) d hd = nearestℕ_high a d hd
nearest_away (negsuc a) d hd = rw (abs_neg (pos (nearestℕ (suc a) d))) (nearestℕ_high (suc a) d hd)

-- and no other number is so near with its halves away from zero
pub nearest_only : (n : ℤ) (d : ℕ) (q : ℤ) → 0 < d → Within d (pos 2 *ℤ n -ℤ pos 2 *ℤ (pos d *ℤ q)) → 2 * nat_abs n < 2 * (d * nat_abs q) + d → nearest n d ≡ q
nearest_only (pos a) d (pos b) hd near away =
    ap pos (nearestℕ_only a d hd b (omega (arith, le? (neg (v (pos d))) (v (pos 2) ⊗ v (pos a) ⊖ v (pos 2) ⊗ (v (pos d) ⊗ v (pos b))) (within_low near))) away)
nearest_only (pos a) d (negsuc b) hd near away =
    absurd (omega (arith, mul-le-mul_left d (le_suc b), le? (v (pos 2) ⊗ v (pos a) ⊖ v (pos 2) ⊗ (v (pos d) ⊗ v (negsuc b))) (v (pos d)) (within_high near)))
nearest_only (negsuc a) d (pos zero) hd near away =
    ap (λ (k : ℕ). neg_ℤ (pos k)) (nearestℕ_only (suc a) d hd 0 (omega arith) (omega arith))
nearest_only (negsuc a) d (pos (suc b)) hd near away =
    absurd (omega (
      arith,
      mul-le-mul_left d (le_suc b),
      le? (neg (v (pos d))) (v (pos 2) ⊗ v (negsuc a) ⊖ v (pos 2) ⊗ (v (pos d) ⊗ v (pos (suc b))))
          (within_low near),
    ))
nearest_only (negsuc a) d (negsuc b) hd near away =
    ap (λ (k : ℕ). neg_ℤ (pos k)) (nearestℕ_only (suc a) d hd (suc b) (omega
    (arith, le? (v (pos 2) ⊗ v (negsuc a) ⊖ v (pos 2) ⊗ (v (pos d) ⊗ v (negsuc b))) (v (pos d)) (within_high near))) away)

pub nearest_within : (n : ℤ) (d k : ℕ) → 0 < d → Within (d * k) n → Within k (nearest n d)
nearest_within (pos a) d k p h = within_natural (nearestℕ_≤ a d p k h.size)
nearest_within (negsuc a) d k p h = within_negation (within_natural (nearestℕ_≤ (suc a) d p k h.size))

-- ---- by a division that cuts off toward zero, as the machine's: half of the divisor is added first, away from zero
halves : (a h : ℕ) → 0 < h → nearestℕ a (2 * h) ≡ (a + h) / (2 * h)
halves a h p =
    let q : 0 < 2 * h = omega arith in
    go ((a + h) / (2 * h)) (div-mul-le_self (a + h) (2 * h)) (lt-div-mul-add {a = a + h} q)
  where
    go : (q : ℕ) → q * (2 * h) ≤ a + h → a + h < q * (2 * h) + 2 * h → nearestℕ a (2 * h) ≡ q
    go q low high = nearestℕ_only a (2 * h) (omega arith) q (omega arith) (omega arith)

pub nearest_up : (n : ℤ) (h : ℕ) → 0 < h → pos 0 ≤ℤ n → quot_z (n +ℤ pos h) (pos (2 * h)) ≡ nearest n (2 * h)
nearest_up (pos a) h p l = ap pos (sym (halves a h p))
nearest_up (negsuc a) h p l = absurd l.le

pub nearest_down : (n : ℤ) (h : ℕ) → 0 < h → n <ℤ pos 0 → quot_z (n -ℤ pos h) (pos (2 * h)) ≡ nearest n (2 * h)
nearest_down (pos a) h p l = none_below a (omega (arith, lt_in l))
nearest_down (negsuc a) h p l =
    let e : negsuc a -ℤ pos h ≡ negsuc (a + h) = ring (v (negsuc a) ⊖ v (pos h)) (v (negsuc (a + h))) (omega arith) in
    let s : suc (a + h) ≡ suc a + h = omega arith in
    rw (e, s) (ap (λ (k : ℕ). neg_ℤ (pos k)) (sym (halves (suc a) h p)))
