-- Laws of the definitions in specs/Rates.antt.
use Rattle.std.proofs.Common.{◌≡◌, ℕ, ◌+◌, ◌-◌, ◌*◌, ◌/◌, ◌%◌, ◌^◌, ◌<◌, ◌≤◌, Bool, true, false, cond, ltb, sym, refl, ap, ◌∙◌, mul-le-mul_right, mod-lt, mod-eq_of_lt, mul-le-mul, lt_of_mul-lt-mul_right, mul-le-mul_left, div-add-mod', le_of_mul-le-mul_right, arith, ltb-false, ltb-true}
use native.Mathlib.Nat.{mod-eq-sub-mod, mul-add-mod_self_right, mul-lt-mul_of_pos_left}
use Rattle.integers.specs.Division.{Divided}
use Rattle.integers.proofs.Division.{divided, quotient, remains}
use Rattle.share.specs.declared.part.Rate.{Rate}
use Rattle.share.specs.Rates.{Rated, total_of}

-- ---- the estimate of b·w/W by the ratio F = b·M/W, rounded down: at most one too small
module _ (M b F w W : ℕ) (low : F * W ≤ b * M) (high : b * M < F * W + W) (large : w ≤ M) (some : 0 < M) where
  parted : F * w / M * M + F * w % M ≡ F * w
  parted = div-add-mod' (F * w) M

  pub under : F * w / M * W ≤ b * w
  under =
      let p : F * w / M * M ≤ F * w = omega (arith, parted) in
      le_of_mul-le-mul_right {k = M} (omega (arith, mul-le-mul_right W p, mul-le-mul_right w low)) some

  pub over : b * w < F * w / M * W + 2 * W
  over =
      let p : F * w + 1 ≤ (F * w / M + 1) * M = omega (arith, parted, mod-lt (F * w) some) in
      let h : b * M ≤ F * W + W = omega arith in
      lt_of_mul-lt-mul_right M (omega (arith, mul-le-mul_right W p, mul-le-mul_right w h, mul-le-mul_left W large))

  pub few : w ≤ W → F * w / M ≤ b
  few k = le_of_mul-le-mul_right {k = W} (omega (arith, under, mul-le-mul_left b k)) (omega arith)

-- by the ratio rounded up: at most one too large, and right where w has room between the remainder r and W
module _ (M b F w W q r : ℕ) (low : F * W ≤ b * M) (high : b * M < F * W + W) (large : W < M) (d : Divided (b * w) W q r) where
  rounded : (F + 1) * w / M * M + (F + 1) * w % M ≡ (F + 1) * w
  rounded = div-add-mod' ((F + 1) * w) M

  not_below : q ≤ (F + 1) * w / M
  not_below =
      let p : (F + 1) * w + 1 ≤ ((F + 1) * w / M + 1) * M = omega (arith, rounded, mod-lt ((F + 1) * w) {m = M} (omega arith)) in
      let h : b * M ≤ (F + 1) * W = omega arith in
      let l : q * W < ((F + 1) * w / M + 1) * W = lt_of_mul-lt-mul_right M
      (omega (arith, ap (λ (z : ℕ). z * M) d.is, mul-le-mul_right W p, mul-le-mul_right w h)) in
      omega (arith, lt_of_mul-lt-mul_right W {m = q} {n = (F + 1) * w / M + 1} l)

  not_above : 0 < w → r + w ≤ W → (F + 1) * w / M ≤ q
  not_above some k =
      let p : (F + 1) * w / M * M ≤ (F + 1) * w = omega (arith, rounded) in
      let h : (F + 1) * W ≤ b * M + W = omega arith in
      let m : W + 1 ≤ M = omega arith in
      let l : (F + 1) * w / M * W < (q + 1) * W = lt_of_mul-lt-mul_right M
      (omega (arith, ap (λ (z : ℕ). z * M) d.is, mul-le-mul_right W p, mul-le-mul_right w h, mul-le-mul_right w m, mul-le-mul_right M k)) in
      omega (arith, lt_of_mul-lt-mul_right W {m = (F + 1) * w / M} {n = q + 1} l)

-- what is taken away in words is taken away in numbers, where that fits a word
pub taken_away : (M x y d r : ℕ) → 0 < M → y ≡ x + d → d < M → r < M → (r + x % M) % M ≡ y % M → r ≡ d
taken_away M x y d r some e l k f =
    go (ltb (r + x % M) M) refl (ltb (d + x % M) M) refl (f ∙ ap (λ (m : ℕ). m % M) (e ∙ rearranged) ∙ mul-add-mod_self_right (x / M) M (d + x % M))
  where
    rearranged : x + d ≡ x / M * M + (d + x % M)
    rearranged = omega (arith, div-add-mod' x M)

    rest : (m : ℕ) (t : Bool) → ltb m M ≡ t → m < M + M → m % M + cond t 0 M ≡ m
    rest m true g h = omega (arith, mod-eq_of_lt (ltb-true m M g))
    rest m false g h =
        let b : M ≤ m = ltb-false m M g in
        let c : m - M < M = omega arith in
        omega (arith, mod-eq-sub-mod b, mod-eq_of_lt c)

    go : (s : Bool) → ltb (r + x % M) M ≡ s → (t : Bool) → ltb (d + x % M) M ≡ t → (r + x % M) % M ≡ (d + x % M) % M → r ≡ d
    go s g t h q = by s t (rest (r + x % M) s g (omega (arith, mod-lt x some))) (rest (d + x % M) t h (omega (arith, mod-lt x some)))
      where
        by : (s t : Bool) → (r + x % M) % M + cond s 0 M ≡ r + x % M → (d + x % M) % M + cond t 0 M ≡ d + x % M → r ≡ d
        by true true u v = omega (arith, q)
        by true false u v = absurd (omega (arith, q))
        by false true u v = absurd (omega (arith, q))
        by false false u v = omega (arith, q)

-- ---- a product by halves, in base H
module _ (H xh xl yh yl : ℕ) where
  -- its upper half: by columns, with each one's carry and digit
  pub columns : {q₀ r₀ q r q₁ r₁ : ℕ} → Divided (xl * yl) H q₀ r₀ → Divided (xh * yl + q₀) H q r → Divided (xl * yh + r) H q₁ r₁ →
      Divided ((xh * H + xl) * (yh * H + yl)) (H * H) (xh * yh + q + q₁) (r₁ * H + r₀)
  columns {q₀} {r₀} {q} {r} {q₁} {r₁} e f g =
      let d : r₁ + 1 ≤ H = omega (arith, g.small) in
      record {
        is = omega (arith, e.is, ap (λ (z : ℕ). z * H) f.is, ap (λ (z : ℕ). z * H) g.is);
        small = omega (arith, mul-le-mul_right H d, e.small);
      }

  -- and its lower half
  pub lower_columns : {q r : ℕ} → Divided (xh * yl + xl * yh) H q r → (xh * H + xl) * (yh * H + yl) ≡ (xh * yh + q) * (H * H) + (xl * yl + r * H)
  lower_columns {q} {r} e = omega (arith, ap (λ (z : ℕ). z * H) e.is)

-- halves of a word, and what their products come to
abbrev pub half : ℕ
half = 4_294_967_296

-- a product of two halves fits a word, with another half beside it
pub halves : (a b : ℕ) → a < half → b < half → a * b + half ≤ 18_446_744_073_709_551_615
halves a b h k =
    let c : a ≤ 4_294_967_295 = omega arith in
    let d : b ≤ 4_294_967_295 = omega arith in
    omega (arith, mul-le-mul c d)

-- the upper half of a product of two words is a word
quotient_small : (M p x y : ℕ) → x < M → y < M → {r : ℕ} → Divided (x * y) M p r → p < M
quotient_small M p x y h k {r} d =
    let l : x ≤ M = omega arith in
    lt_of_mul-lt-mul_right M (omega (arith, d.is, mul-le-mul_right y l, mul-lt-mul_of_pos_left {k = M} k (omega arith)))

module _ (x y : ℕ) where
  abbrev pub middle : ℕ
  middle = x / half * (y % half) + x % half * (y % half) / half

  abbrev pub next : ℕ
  next = x % half * (y / half) + middle % half

  whole_of : (z : ℕ) → z / half * half + z % half ≡ z
  whole_of z = div-add-mod' z half

  upper_divided : Divided (x * y) (2 ^ 64) (x / half * (y / half) + middle / half + next / half) (next % half * half + x % half * (y % half) % half)
  upper_divided =
      rw (whole_of x, whole_of y) at (columns half (x / half) (x % half) (y / half) (y % half) (divided (x % half * (y % half)) half (omega arith))
      (divided middle half (omega arith)) (divided next half (omega arith)))

  pub upper_is : x / half * (y / half) + middle / half + next / half ≡ x * y / 2 ^ 64
  upper_is = sym (quotient upper_divided)

  -- which fits a word where both factors do
  pub upper_small : x < 2 ^ 64 → y < 2 ^ 64 → x / half * (y / half) + middle / half + next / half < 2 ^ 64
  upper_small h k = quotient_small (2 ^ 64) (x / half * (y / half) + middle / half + next / half) x y h k upper_divided

  pub lower_is : (x % half * (y % half) + (x / half * (y % half) + x % half * (y / half)) % half * half) % 2 ^ 64 ≡ x * y % 2 ^ 64
  lower_is =
      let m : ℕ = x / half * (y % half) + x % half * (y / half) in
      sym (rw (whole_of x, whole_of y) at (ap (λ (z : ℕ). z % 2 ^ 64) (lower_columns half (x / half) (x % half) (y / half) (y % half)
      (divided m half (omega arith))))
      ∙ mul-add-mod_self_right (x / half * (y / half) + m / half) (2 ^ 64) (x % half * (y % half) + m % half * half))

-- ---- the part of a weight: the estimate, and what it leaves over
module _ (rate : Rate) (h : Rated rate) (w q : ℕ) (k : w ≤ rate.sum) (e : q ≡ rate.ratio * w / 2 ^ 64) where
  large : w ≤ 2 ^ 64
  large = omega (arith, h.small)

  pub estimate_few : q ≤ rate.rest
  estimate_few = rw e (few (2 ^ 64) rate.rest rate.ratio w rate.sum h.low h.high large (omega arith) k)

  estimate_under : q * rate.sum ≤ rate.rest * w
  estimate_under = rw e (under (2 ^ 64) rate.rest rate.ratio w rate.sum h.low h.high large (omega arith))

  estimate_over : rate.rest * w < q * rate.sum + 2 * rate.sum
  estimate_over = rw e (over (2 ^ 64) rate.rest rate.ratio w rate.sum h.low h.high large (omega arith))

  -- worked out in words
  pub left_by : (x y o : ℕ) → x ≡ rate.rest * w % 2 ^ 64 → y ≡ q * rate.sum % 2 ^ 64 → o < 2 ^ 64 → (o + y) % 2 ^ 64 ≡ x →
      (rate.rest * w ≡ q * rate.sum + o) × (o < 2 * rate.sum)
  left_by x y o f g l m =
      let d : ℕ = rate.rest * w - q * rate.sum in
      let n : rate.rest * w ≡ q * rate.sum + d = omega (arith, estimate_under) in
      let b : d < 2 * rate.sum = omega (arith, estimate_over) in
      let z : d < 2 ^ 64 = omega (arith, h.small) in
      let is : o ≡ d = taken_away (2 ^ 64) (q * rate.sum) (rate.rest * w) d o (omega arith) n z l (rw (f, g) at m) in
      (rw is n, rw is b)

  -- with T's whole part
  pub with_whole : (o : ℕ) → rate.rest * w ≡ q * rate.sum + o → total_of rate * w ≡ (rate.whole * w + q) * rate.sum + o
  with_whole o f = omega (arith, f)

-- the whole part by the ratio rounded up
pub rounded_up : (rate : Rate) (w : ℕ) → Rated rate → 0 < w → total_of rate * w % rate.sum + w ≤ rate.sum →
    total_of rate * w / rate.sum ≡ rate.whole * w + (rate.ratio + 1) * w / 2 ^ 64
rounded_up rate w h some k =
    quotient all ∙ ap (λ (m : ℕ). rate.whole * w + m) (omega (
      arith,
      not_below (2 ^ 64) rate.rest rate.ratio w rate.sum q r h.low h.high small
          d,
      not_above (2 ^ 64) rate.rest rate.ratio w rate.sum q r h.low h.high small d some (omega (arith, remains all)),
    ))
  where
    q : ℕ
    q = rate.rest * w / rate.sum

    r : ℕ
    r = rate.rest * w % rate.sum

    small : rate.sum < 2 ^ 64
    small = omega (arith, h.small)

    d : Divided (rate.rest * w) rate.sum q r
    d = divided (rate.rest * w) rate.sum (omega (arith, h.below))

    all : Divided (total_of rate * w) rate.sum (rate.whole * w + q) r
    all = record { is = omega (arith, d.is); small = d.small }
