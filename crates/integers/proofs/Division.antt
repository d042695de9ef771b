-- Laws of the definitions in specs/Division.antt.
use mathlib.Core.Path.{◌≡◌, sym, ap}
use Prim.Native.Nat.{ℕ, ◌+◌, ◌*◌, ◌-◌, ◌/◌, ◌%◌, ◌≤◌, ◌<◌}
use native.Mathlib.Omega.{arith}
use native.Mathlib.Nat.{
  mul-add-div_right,
  mul-add-mod_self_right,
  div-eq_of_lt,
  mod-eq_of_lt,
  mul-le-mul_left,
  mul-le-mul_right,
  add-mul,
  mul_assoc,
  le_of_mul-le-mul_right,
  div-add-mod',
  mod-lt,
}
use Rattle.integers.specs.Division.{Divided}

pub quotient : {x W q r : ℕ} → Divided x W q r → x / W ≡ q
quotient {x} {W} {q} {r} h =
    let p : 0 < W = omega (arith, h.small) in
    rw (h.is, mul-add-div_right p q r, div-eq_of_lt h.small) (omega arith)

pub remains : {x W q r : ℕ} → Divided x W q r → x % W ≡ r
remains {x} {W} {q} {r} h = rw (h.is, mul-add-mod_self_right q W r) (mod-eq_of_lt h.small)

-- every number is divided so by a W above zero
pub divided : (x W : ℕ) → 0 < W → Divided x W (x / W) (x % W)
divided x W h = record { is = sym (div-add-mod' x W); small = mod-lt x h }

-- one bit more of T: twice the remainder, and the weight where the bit is 1, less W as often as it goes
module _ (T w W q r b c s : ℕ) (h : Divided (T * w) W q r) where
  pub bit_more : 2 * r + b * w ≡ c * W + s → s < W → Divided ((2 * T + b) * w) W (2 * q + c) s
  bit_more e l = record { is = omega (arith, h.is, add-mul (2 * T) b w, add-mul (2 * q) c W, mul_assoc 2 T w, mul_assoc 2 q W); small = l }

  -- and it goes at most twice
  pub bit_small : b ≤ 1 → w ≤ W → 2 * r + b * w < 3 * W
  bit_small hb hw = omega (arith, mul-le-mul_right w hb, h.small)

-- S whole parts of a T that is S and a remainder, in Wths
pub taken_≤ : (T S W R : ℕ) → 0 < W → T * W ≡ S * W + R → S ≤ T
taken_≤ T S W R h e = le_of_mul-le-mul_right (omega arith) h

-- what is left over of T is the remainder
pub taken_rest : (T S W R : ℕ) → 0 < W → T * W ≡ S * W + R → (T - S) * W ≡ R
taken_rest T S W R h e =
    let k : S + (T - S) ≡ T = omega (arith, taken_≤ T S W R h e) in
    omega (arith, rw k at (add-mul S (T - S) W))

-- division by hand, in base D: the upper parts alone give the estimate q, and c remains of them. q times the divisor is what is divided, but
-- for what the lower parts add and take away
pub estimated : (D b xh xl wh wl Wh Wl q c : ℕ) → q * Wh + c ≡ xh * D + b * wh →
    q * (Wh * D + Wl) + (c * D + (xl * D + b * wl)) ≡ (xh * D + xl) * D + b * (wh * D + wl) + q * Wl
estimated D b xh xl wh wl Wh Wl q c e = omega (arith, ap (λ (z : ℕ). z * D) e)

-- T in two digits of base D, each divided in turn
pub two_digits : (D high low w : ℕ) {W p r q s : ℕ} → Divided (high * w) W p r → Divided (r * D + low * w) W q s →
    Divided ((high * D + low) * w) W (p * D + q) s
two_digits D high low w {W} {p} {r} {q} {s} f g =
    record { is = omega (arith, ap (λ (z : ℕ). z * D) f.is, g.is); small = g.small }

-- T times a part of the whole has at most T wholes
pub quotient_≤ : (T w : ℕ) {W q r : ℕ} → w ≤ W → Divided (T * w) W q r → q ≤ T
quotient_≤ T w {W} {q} {r} h d =
    le_of_mul-le-mul_right {k = W} (omega (arith, d.is, mul-le-mul_left T h)) (omega (arith, d.small))
