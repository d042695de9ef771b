-- No quotient is a tie. Halfway between two neighbouring f32 of 24 digits lies an odd number over a power of two; a deviation over 7,500 within the limit
-- would be one only if 4 · 1,875 times an odd number were a multiple of 8.
use mathlib.Core.Path.{◌≡◌, sym, ap, ◌∙◌}
use Prim.Native.Nat.{Ordering}
use Prim.Native.Nat.{ℕ, zero, suc, ◌+◌, ◌-◌, ◌*◌, ◌/◌, ◌%◌, ◌^◌, ◌≤◌, ◌<◌, compare}
use native.Mathlib.Nat.{le_trans, div-add-mod', eq_of_mul-eq-mul_right, pow-suc}
use native.Mathlib.Omega.{arith}
use lib.Dec.{compare_is_eq, eqb→eq, lit≤}
use lib.Pow.{pow-add, pow_pos}
use lib.Ieee.{size}
use lib.Ieee.Digits.{back}
use lib.Ieee.Order.{drop}
use Rattle.rules.specs.Quantities.{deviation_limit}
use Rattle.laws.proofs.StripOrder.{dropped}

-- a multiple of 8 is not 7,500 times an odd number
not_eighths : (d p m : ℕ) → d * (8 * p) ≡ 7_500 * (2 * m + 1) → ⊥
not_eighths d p m e = omega arith

-- a midpoint of two neighbouring f32 is (2m + 1) / 2^j; the 24 digits of m ask for a j past 13, so that 8 divides 2^j
pub no_tie : (d m j : ℕ) → d ≤ deviation_limit → 2 ^ 23 ≤ m → d * 2 ^ j ≡ 7_500 * (2 * m + 1) → ⊥
no_tie d m zero h l e = omega arith
no_tie d m (suc zero) h l e = omega arith
no_tie d m (suc (suc zero)) h l e = omega arith
no_tie d m (suc (suc (suc i))) h l e = not_eighths d (2 ^ i) m (omega (arith, rw (pow-suc 2 (suc (suc i)), pow-suc 2 (suc i), pow-suc 2 i) at e))

-- the same of the test by which the rounding knows a tie: the remainder is never half of the unit, for 136 digits at most are dropped
pub quotient_untied : (d : ℕ) → d ≤ deviation_limit →
    let u = 7_500 * 2 ^ (size (d * 2 ^ 149 / 7_500) - 24) in compare (d * 2 ^ 149 % u * 2) u ≡ Ordering.eq → ⊥
quotient_untied d h e =
    let k = drop 24 (d * 2 ^ 149) 7_500 in
    let u = 7_500 * 2 ^ k in
    let n = d * 2 ^ 149 in
    half (2 ^ (147 - k)) (2 ^ k) (n / u) (n % u) (2 ^ 147) (pow_pos k) (div-add-mod' n u) (eqb→eq (n % u * 2) u (rw (ap compare_is_eq e) tt))
    (sym (pow-add 2 (147 - k) k) ∙ ap (λ (z : ℕ). 2 ^ z) (back 147 k (le_trans (dropped d h) (lit≤ tt))))
  where
    half : (p c q r t : ℕ) → 0 < c → q * (7_500 * c) + r ≡ d * (4 * t) → r * 2 ≡ 7_500 * c → p * c ≡ t → ⊥
    half p c q r t C w f g =
        not_eighths d p q (eq_of_mul-eq-mul_right c C (d * (8 * p)) (7_500 * (2 * q + 1)) (omega (arith, ap (λ (z : ℕ). d * z) g)))
