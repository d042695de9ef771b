-- The value of a strip's point: the deviation over 7,500, rounded once, for a deviation up to 2^24 is an f32 with nothing lost.
-- The sign is kept, no deviation is plain zero, and a multiple of 7,500 comes out as its whole MW.
use mathlib.Core.Path.{◌≡◌, refl, sym, ap, ◌∙◌}
use mathlib.Core.Bool.{Bool, true, false, not, cond}
use Prim.Native.Nat.{ℕ, zero, suc, ◌+◌, ◌*◌, ◌^◌, ◌≤◌, ◌<◌}
use native.Mathlib.Nat.{lt_irrefl, mul-pos}
use native.Mathlib.Omega.{arith}
use lib.Dec.{ltb, lit<}
use lib.IntN.{ℤ, pos, negsuc, neg_ℤ, nat_abs, ◌*ℤ◌}
use lib.Signed.{non_neg}
use lib.Ieee.{Float, nan, inf, fin, Format, binary32, prec, low, emax, unlike, up, down, odd, units, round, neg, of_int, div}
use lib.Ieee.Fits.{round_is, down_pos}
use lib.Ieee.Exact.{HasValue}
use lib.Ieee.Back.{round_whole}
use lib.Ieee.Scale.{round_same}
use Rattle.integers.specs.Bounds.{Within}
use Rattle.integers.proofs.Bounds.{abs_mul, within_literal, within_product}
use Rattle.rules.specs.Quantities.{deviation_limit}
use Rattle.rules.specs.Strip.{megawatts}

-- ---- the quotient
-- a number over a positive one keeps its sign
unlike_positive : (s : Bool) → unlike s false ≡ s
unlike_positive true = refl
unlike_positive false = refl

-- a whole number over 7,500, which an f32 holds as 1,875 · 2^2
over_7500 : (x : Float) (s : Bool) (n : ℕ) → HasValue x s n 1 → div binary32 x (fin false 1_875 (pos 2)) ≡ round binary32 s n 7_500
unfolding div
over_7500 nan s n v = absurd v
over_7500 (inf t) s n v = absurd v
over_7500 (fin t m e) s n v =
    ap (λ (z : Bool). round binary32 z (m * up e * 1) (7_500 * down e)) (unlike_positive t ∙ v.0)
    ∙ round_same binary32 s (m * up e * 1) (7_500 * down e) n 7_500 (mul-pos (lit< tt) (down_pos e)) (lit< tt) (omega (arith, v.1))

cast_is : (d : ℤ) → of_int binary32 d ≡ round binary32 (not (non_neg d)) (nat_abs d) 1
unfolding of_int
cast_is (pos n) = refl
cast_is (negsuc n) = refl

divisor_is : of_int binary32 (pos 7_500) ≡ fin false 1_875 (pos 2)
unfolding of_int
divisor_is = refl

-- the point is the one rounding of the deviation over 7,500, since the deviation's own cast is exact up to 2^24
pub quotient : {d : ℤ} → Within deviation_limit d → megawatts d ≡ round binary32 (not (non_neg d)) (nat_abs d) 7_500
unfolding megawatts
quotient {d} h =
    rw (divisor_is, cast_is d)
    (over_7500 (round binary32 (not (non_neg d)) (nat_abs d) 1) (not (non_neg d)) (nat_abs d)
    (round_whole binary32 (not (non_neg d)) (nat_abs d) (omega (arith, h.size))))

-- ---- the sign
odd_turned : (d q k l : ℕ) → odd d true q k l ≡ neg (odd d false q k l)
unfolding odd neg
odd_turned d zero k l = refl
odd_turned d (suc q) k l = refl

units_turned : (f : Format) (q k : ℕ) → units f true q k ≡ neg (units f false q k)
unfolding units neg
units_turned f q k = go (ltb (q * 2 ^ k) (2 ^ (low f + suc (emax f))))
  where
    go : (b : Bool) → cond b (odd (suc (prec f)) true q k (low f)) (inf true) ≡ neg (cond b (odd (suc (prec f)) false q k (low f)) (inf false))
    go true = odd_turned (suc (prec f)) q k (low f)
    go false = refl

-- rounding to the nearest looks at the size alone
round_turned : (f : Format) (n c : ℕ) → round f true n c ≡ neg (round f false n c)
round_turned f n c = round_is f true n c ∙ units_turned f _ _ ∙ ap neg (sym (round_is f false n c))

-- a deviation below zero is drawn as far below the line as its opposite above it
pub sign_kept : {n : ℕ} → suc n ≤ deviation_limit → megawatts (negsuc n) ≡ neg (megawatts (pos (suc n)))
sign_kept {n} h = quotient (record { size = h }) ∙ round_turned binary32 (suc n) 7_500 ∙ ap neg (sym (quotient (record { size = h })))

-- no deviation is positive zero
pub zero_is : megawatts (pos 0) ≡ fin false 0 (pos 0)
unfolding megawatts of_int div
zero_is = refl

-- ---- a multiple of 7,500
below_zero : (x : ℕ) → 0 < x → non_neg (neg_ℤ (pos x)) ≡ false
below_zero zero h = absurd (lt_irrefl 0 h)
below_zero (suc x) h = refl

multiple_sign : (k : ℤ) → non_neg (pos 7_500 *ℤ k) ≡ non_neg k
multiple_sign (pos n) = refl
multiple_sign (negsuc n) = below_zero (7_500 * suc n) (omega arith)

-- it divides evenly, and comes out as its whole MW, which an f32 holds
pub whole_exact : {k : ℤ} → Within 2_000 k → megawatts (pos 7_500 *ℤ k) ≡ of_int binary32 k
whole_exact {k} h =
    let q = quotient (within_product (within_literal {k = 7_500} {a = pos 7_500} tt) h) in
    (rw (multiple_sign k, abs_mul (pos 7_500) k) at q)
    ∙ round_same binary32 (not (non_neg k)) (7_500 * nat_abs k) 7_500 (nat_abs k) 1 (lit< tt) (lit< tt) (omega arith)
    ∙ sym (cast_is k)
