-- Two words tell a number's size by their sign bits.
use Rattle.std.proofs.Common.{◌≡◌, ℕ, zero, suc, ◌+◌, ◌-◌, ◌/◌, ◌%◌, ◌^◌, ◌<◌, ◌≤◌, Bool, true, false, ◌&&◌, eqb, ltb, leb, ℤ, pos, negsuc, nat_abs, ◌≤ℤ◌, ◌<ℤ◌, sym, refl, ◌∙◌, arith, w64, SFits, of_z, ltb-false, ltb-true, eq-eqb, ne_eqb, leb-false, leb-true}
use lib.Bits.{bit_or, and_le_l, and_le_r, or_lt, or_add_and}
use Rattle.integers.specs.Pairs.{loss}
use Rattle.integers.proofs.Pairs.{lt_in}
use Rattle.rules.specs.Fields.{sized}

-- ---- two words put together by `or` have what either has
module _ (a b : ℕ) where
  at_least_left : a ≤ bit_or a b
  at_least_left = omega (arith, or_add_and a b, and_le_r a b)

  at_least_right : b ≤ bit_or a b
  at_least_right = omega (arith, or_add_and a b, and_le_l a b)

  -- the sign bit, where one of them has it
  pub sign_of_both : eqb (bit_or a b / 2 ^ 63) 0 ≡ eqb (a / 2 ^ 63 + b / 2 ^ 63) 0
  sign_of_both = go (ltb a (2 ^ 63)) refl (ltb b (2 ^ 63)) refl
    where
      go : (s : Bool) → ltb a (2 ^ 63) ≡ s → (t : Bool) → ltb b (2 ^ 63) ≡ t → eqb (bit_or a b / 2 ^ 63) 0 ≡ eqb (a / 2 ^ 63 + b / 2 ^ 63) 0
      go true d true e =
          let x = ltb-true a (2 ^ 63) d in
          let y = ltb-true b (2 ^ 63) e in
          let z = or_lt 63 a b x y in
          eq-eqb (bit_or a b / 2 ^ 63) 0 (omega arith) ∙ sym (eq-eqb (a / 2 ^ 63 + b / 2 ^ 63) 0 (omega arith))
      go false d t e =
          let x = ltb-false a (2 ^ 63) d in
          ne_eqb (bit_or a b / 2 ^ 63) 0 (λ z. omega (arith, at_least_left)) ∙ sym (ne_eqb (a / 2 ^ 63 + b / 2 ^ 63) 0 (λ z. omega arith))
      go true d false e =
          let y = ltb-false b (2 ^ 63) e in
          ne_eqb (bit_or a b / 2 ^ 63) 0 (λ z. omega (arith, at_least_right)) ∙ sym (ne_eqb (a / 2 ^ 63 + b / 2 ^ 63) 0 (λ z. omega arith))

-- 0 where both are
pub none_in_both : (a b : ℕ) → eqb (bit_or a b) 0 ≡ (eqb a 0 && eqb b 0)
none_in_both zero b = refl
none_in_both (suc a) b = rw (ne_eqb (bit_or (suc a) b) 0 (λ z. omega (arith, at_least_left (suc a) b)), ne_eqb (suc a) 0 (λ z. omega arith))

-- ---- the sign bits of limit + x and of limit - x, modulo 2^64: k is the bits of x, n its size
module _ (limit n k : ℕ) (small : limit < 2 ^ 40) where
  sum_small : {above : ℕ} → k ≡ n → n ≤ limit → above ≡ (limit + k) % 2 ^ 64 → above / 2 ^ 63 ≡ 0
  sum_small e l ea = omega arith

  difference_small : {below : ℕ} → k ≡ n → n ≤ limit → (below + k) % 2 ^ 64 ≡ limit → below < 2 ^ 64 → below / 2 ^ 63 ≡ 0
  difference_small e l eb fb = omega arith

  difference_large : {below : ℕ} → k ≡ n → limit < n → n < 2 ^ 63 → (below + k) % 2 ^ 64 ≡ limit → 2 ^ 63 ≤ below
  difference_large e l f eb = omega arith

  sum_small' : {above : ℕ} → k + n ≡ 2 ^ 64 → n ≤ limit → above ≡ (limit + k) % 2 ^ 64 → above / 2 ^ 63 ≡ 0
  sum_small' e l ea = omega arith

  difference_small' : {below : ℕ} → k + n ≡ 2 ^ 64 → n ≤ limit → (below + k) % 2 ^ 64 ≡ limit → below < 2 ^ 64 → below / 2 ^ 63 ≡ 0
  difference_small' e l eb fb = omega arith

  sum_large : {above : ℕ} → k + n ≡ 2 ^ 64 → limit < n → n ≤ 2 ^ 63 → above ≡ (limit + k) % 2 ^ 64 → 2 ^ 63 ≤ above
  sum_large e l f ea = omega arith

-- they are 0 exactly where x is at most the limit either way
pub sign_bits : (limit : ℕ) (x : ℤ) {above below : ℕ} → limit < 2 ^ 40 → SFits w64 x → above ≡ (limit + of_z w64 x) % 2 ^ 64
    → (below + of_z w64 x) % 2 ^ 64 ≡ limit → below < 2 ^ 64 → eqb (above / 2 ^ 63 + below / 2 ^ 63) 0 ≡ sized limit x
sign_bits limit (pos n) {above} {below} h f ea eb fb = go (leb n limit) refl
  where
    go : (t : Bool) → leb n limit ≡ t → eqb (above / 2 ^ 63 + below / 2 ^ 63) 0 ≡ leb n limit
    go true e =
        let l = leb-true n limit e in
        rw (sum_small limit n n h refl l ea, difference_small limit n n h refl l eb fb) (sym e)
    go false e =
        let l = difference_large limit n n h refl (leb-false n limit e) f.sfits eb in
        ne_eqb (above / 2 ^ 63 + below / 2 ^ 63) 0 (λ z. one_left l z) ∙ sym e
      where
        one_left : 2 ^ 63 ≤ below → above / 2 ^ 63 + below / 2 ^ 63 ≡ 0 → ⊥
        one_left l z = omega arith
sign_bits limit (negsuc n) {above} {below} h f ea eb fb = go (leb (suc n) limit) refl
  where
    k : ℕ
    k = 2 ^ 64 - suc n

    together : k + suc n ≡ 2 ^ 64
    together = omega (arith, f.sfits)

    go : (t : Bool) → leb (suc n) limit ≡ t → eqb (above / 2 ^ 63 + below / 2 ^ 63) 0 ≡ leb (suc n) limit
    go true e =
        let l = leb-true (suc n) limit e in
        rw (sum_small' limit (suc n) k h together l ea, difference_small' limit (suc n) k h together l eb fb) (sym e)
    go false e =
        let l = sum_large limit (suc n) k h together (leb-false (suc n) limit e) f.sfits ea in
        ne_eqb (above / 2 ^ 63 + below / 2 ^ 63) 0 (λ z. one_left l z) ∙ sym e
      where
        one_left : 2 ^ 63 ≤ above → above / 2 ^ 63 + below / 2 ^ 63 ≡ 0 → ⊥
        one_left l z = omega arith

-- the bits of a number below zero are what is left of the largest 64 bits past one less than its size
pub bits_below : (x : ℤ) → x <ℤ pos 0 → SFits w64 x → 18_446_744_073_709_551_615 - (loss x - 1) ≡ of_z w64 x
bits_below (pos n) h f = omega (arith, lt_in h)
bits_below (negsuc n) h f = omega (arith, f.sfits)

pub bits_above : (x : ℤ) → pos 0 ≤ℤ x → nat_abs x ≡ of_z w64 x
bits_above (pos n) h = refl
bits_above (negsuc n) h = absurd h.le
