-- Performances in billionths of a MWHz: no half is met, those of signed 64-bit performances are within the limit, and each within it is one of them.
use mathlib.Core.Path.{◌≡◌, refl, sym, ◌∙◌, ap}
use Prim.Native.Nat.{ℕ, zero, suc, ◌+◌, ◌*◌, ◌-◌, ◌/◌, ◌%◌, ◌≤◌}
use native.Mathlib.Omega.{arith}
use lib.IntN.{ℤ, pos, negsuc, neg_ℤ, nat_abs, ◌+ℤ◌, ◌-ℤ◌, ◌*ℤ◌}
use lib.Signed.{◌≤ℤ◌, ◌<ℤ◌}
use mir.Syntax.{w64}
use mir.Val.{SFits}
use Rattle.integers.specs.Nearest.{nearest, nearestℕ}
use Rattle.integers.proofs.Bounds.{abs_neg}
use Rattle.integers.proofs.Casts.{size_lt, fits_loss}
use Rattle.integers.proofs.Nearest.{nearestℕ_low, nearestℕ_only}
use Rattle.integers.proofs.Pairs.{lt_in, lt_out, le_in, le_out, eq?, ring, v, ◌⊕◌, ◌⊖◌, ◌⊗◌}
use Rattle.rules.specs.ReportRow.{billionths}
use Rattle.rules.specs.ReportRead.{billionths_most}

-- a performance of signed 64 bits
pub record Signed (p : ℤ) : Type 0 where
  pub low : negsuc 9_223_372_036_854_775_807 ≤ℤ p
  pub high : p ≤ℤ pos 9_223_372_036_854_775_807

-- NO HALF IS MET: 2/15 of a performance is never halfway between two billionths
pub nearest_no_half : (p b : ℤ) → pos 2 *ℤ (pos 2 *ℤ p) ≡ pos 15 *ℤ (pos 2 *ℤ b +ℤ pos 1) → ⊥
nearest_no_half p b e = omega (arith, eq? (v (pos 2) ⊗ (v (pos 2) ⊗ v p)) (v (pos 15) ⊗ (v (pos 2) ⊗ v b ⊕ v (pos 1))) e)

-- twice a number below zero
twice_below : (a : ℕ) → pos 2 *ℤ negsuc a ≡ negsuc (2 * a + 1)
twice_below a = let e : 2 * suc a ≡ suc (2 * a + 1) = omega arith in ap (λ (z : ℕ). neg_ℤ (pos z)) e

-- the billionths of a number below zero
pub billionths_below : (a : ℕ) → billionths (negsuc a) ≡ neg_ℤ (pos (nearestℕ (suc (2 * a + 1)) 15))
billionths_below a = ap (λ (z : ℤ). nearest z 15) (twice_below a)

-- THOSE OF SIGNED 64-BIT PERFORMANCES ARE WITHIN THE LIMIT
pub billionths_within : (p : ℤ) → Signed p → nat_abs (billionths p) ≤ billionths_most
billionths_within (pos a) s = omega (arith, le_in s.high, nearestℕ_low (2 * a) 15 (omega arith))
billionths_within (negsuc a) s =
    let q = nearestℕ (suc (2 * a + 1)) 15 in
    rw (billionths_below a, abs_neg (pos q)) (omega (arith, le_in s.low, nearestℕ_low (suc (2 * a + 1)) 15 (omega arith)))

-- the performance that so many billionths are made of: 15/2 of them, the whole part
unfoldable pub performed : ℤ → ℤ
performed (pos b) = pos (15 * b / 2)
performed (negsuc b) = negsuc (15 * suc b / 2 - 1)

-- within the limit it is one of signed 64 bits
pub performed_signed : (b : ℤ) → nat_abs b ≤ billionths_most → Signed (performed b)
unfolding performed
performed_signed (pos b) h = record { low = le_out (omega arith); high = le_out (omega arith) }
performed_signed (negsuc b) h = record { low = le_out (omega arith); high = le_out (omega arith) }

-- EVERY NUMBER OF BILLIONTHS IS THAT OF A PERFORMANCE
pub billionths_reached : (b : ℤ) → billionths (performed b) ≡ b
unfolding performed
billionths_reached (pos b) = ap pos (nearestℕ_only (2 * (15 * b / 2)) 15 (omega arith) b (omega arith) (omega arith))
billionths_reached (negsuc b) =
    let a = 15 * suc b / 2 - 1 in
    billionths_below a
    ∙ ap (λ (z : ℕ). neg_ℤ (pos z)) (nearestℕ_only (suc (2 * a + 1)) 15 (omega arith) (suc b) (omega arith) (omega arith))

-- as the code works them out of the size, which holds twice of it at no time
abbrev pub near : ℕ → ℕ
near size = 2 * (size / 15) + (2 * (size % 15) + 7) / 15

near_is : (size : ℕ) → near size ≡ nearestℕ (2 * size) 15
near_is size = omega arith

pub billionths_above : (p : ℤ) → pos 0 ≤ℤ p → pos (near (nat_abs p)) ≡ billionths p
billionths_above (pos a) h = ap pos (near_is a)
billionths_above (negsuc a) h = absurd h.le

pub billionths_turned : (p : ℤ) → p <ℤ pos 0 → pos 0 -ℤ pos (near (nat_abs p)) ≡ billionths p
billionths_turned (pos a) h = absurd (omega (arith, lt_in h))
billionths_turned (negsuc a) h =
    let e : near (suc a) ≡ nearestℕ (suc (2 * a + 1)) 15 = omega arith in
    ap (λ (k : ℕ). pos 0 -ℤ pos k) e ∙ zero_less (nearestℕ (suc (2 * a + 1)) 15) ∙ sym (billionths_below a)
  where
    zero_less : (k : ℕ) → pos 0 -ℤ pos k ≡ neg_ℤ (pos k)
    zero_less zero = refl
    zero_less (suc k) = ring (v (pos 0) ⊖ v (pos (suc k))) (v (negsuc k)) (omega arith)

-- of a number as the machine holds it
size_most : (p : ℤ) → SFits w64 p → nat_abs p ≤ 9_223_372_036_854_775_808
size_most (pos a) f = omega (arith, size_lt (pos a) f (le_out (omega arith)))
size_most (negsuc a) f = omega (arith, fits_loss (negsuc a) (lt_out (omega arith)) f)

pub billionths_most_of : (p : ℤ) → SFits w64 p → nat_abs (billionths p) ≤ billionths_most
billionths_most_of (pos a) f = omega (arith, size_most (pos a) f, near_is a)
billionths_most_of (negsuc a) f =
    let q = nearestℕ (suc (2 * a + 1)) 15 in
    rw (billionths_below a, abs_neg (pos q)) (omega (arith, size_most (negsuc a) f))
