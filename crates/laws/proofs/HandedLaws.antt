-- Laws of a book's values as they are handed in: where each stands in its list, and numbers that were read as their fields hold them again.
use mathlib.Core.Path.{◌≡◌, refl, sym, ◌∙◌, ap, ap₂}
use mathlib.Core.Bool.{Bool, true, false, cond}
use mathlib.Core.List.{List, [], ◌∷◌, ◌++◌}
use Prim.Native.Nat.{ℕ, zero, suc, ◌+◌, ◌*◌, ◌-◌, ◌/◌, ◌%◌, ◌^◌, ◌≤◌, ◌<◌}
use native.Mathlib.Nat.{mul-zero, mul-one, mul-suc, zero-mul, suc-mul, mod-lt, mod-one, mod-eq_of_lt, pow-suc, pow-le-pow_right, div-eq_of_lt}
use native.Mathlib.Decide.{dec_lt}
use native.Mathlib.Omega.{arith}
use lib.Dec.{ltb, eqb}
use lib.IntN.{pos, negsuc, nat_abs}
use lib.ListN.{length, get_or, length-append, get_or-append}
use lib.Seq.{get_or-append-add}
use borrow.Author.Tests.{ltb-false, lt-ltb, eqb-true, eqb-false}
use Rattle.integers.specs.Sums.{sumℕ}
use Rattle.integers.proofs.Sums.{none_below, sumℕ_ext}
use Rattle.integers.proofs.Fills.{get_d_past}
use Rattle.rules.specs.Quantities.{points}
use Rattle.rules.specs.Bytes.{number_at, bit, listed}
use Rattle.rules.specs.Fields.{quality_in, good_at}
use Rattle.rules.specs.Laid.{below, halved, turned}
use Rattle.rules.specs.Said.{chained, mark_handed}
use Rattle.laws.proofs.BytesLaws.{listed_from_zero, number_below}
use Rattle.laws.proofs.LaidLaws.{mod_parts}
use Rattle.laws.proofs.ReadBack.{signed_by}
use Rattle.laws.proofs.LaidTaken.{Bytes}

pub listed_length : {A : Type 0} (i n : ℕ) (f : ℕ → A) → length (listed i n f) ≡ n
unfolding listed
listed_length i zero f = refl
listed_length i (suc n) f = ap suc (listed_length (suc i) n f)

-- ---- rows one behind the other
module _ {A B : Type 0} (none : A) (zero_cell : B) (w : ℕ) (f : A → List B) where
  pub chained_length : (xs : List A) → ((k : ℕ) → k < length xs → length (f (get_or xs k none)) ≡ w) → length (chained f xs) ≡ length xs * w
  unfolding chained
  chained_length [] h = sym (zero-mul w)
  chained_length (x ∷ xs) h =
      let rest = chained_length xs (λ k l. h (suc k) (omega arith)) in
      omega (arith, length-append (f x) (chained f xs), h 0 (omega arith), rest, suc-mul (length xs) w)

  pub chained_at : (xs : List A) → ((k : ℕ) → k < length xs → length (f (get_or xs k none)) ≡ w) → (k i : ℕ) → k < length xs → i < w →
      get_or (chained f xs) (w * k + i) zero_cell ≡ get_or (f (get_or xs k none)) i zero_cell
  unfolding chained
  chained_at [] h k i l b = none_below k l
  chained_at (x ∷ xs) h zero i l b =
      let place : w * 0 + i ≡ i = omega (arith, mul-zero w) in
      ap (λ (p : ℕ). get_or (f x ++ chained f xs) p zero_cell) place ∙ get_or-append (f x) (chained f xs) zero_cell i (omega (arith, h 0 (omega arith)))
  chained_at (x ∷ xs) h (suc k) i l b =
      let place : w * suc k + i ≡ length (f x) + (w * k + i) = omega (arith, mul-suc w k, h 0 (omega arith)) in
      ap (λ (p : ℕ). get_or (f x ++ chained f xs) p zero_cell) place ∙ get_or-append-add (f x) (chained f xs) (w * k + i) zero_cell
      ∙ chained_at xs (λ j m. h (suc j) (omega arith)) k i (omega arith) b

-- ---- numbers that were read
pub word_of : (end n : ℕ) → n < end → cond (below end (pos n)) (nat_abs (pos n)) 0 ≡ n
word_of end n h = rw (lt-ltb n end h)

module _ (half y : ℕ) (h : y < half + half) where
  pub signed_fits : halved half (signed_by half y) ≡ true
  signed_fits = go (ltb y half) refl
    where
      go : (t : Bool) → ltb y half ≡ t → halved half (cond t (pos y) (negsuc (half + half - suc y))) ≡ true
      go true e = e
      go false e = lt-ltb (half + half - suc y) half (omega (arith, ltb-false y half e))

  pub signed_turned : turned (half + half) (signed_by half y) ≡ y
  signed_turned = go (ltb y half) refl
    where
      go : (t : Bool) → ltb y half ≡ t → turned (half + half) (cond t (pos y) (negsuc (half + half - suc y))) ≡ y
      go true e = refl
      go false e = let twice : half + half - suc (half + half - suc y) ≡ y = omega arith in twice

  pub signed_word_of : cond (halved half (signed_by half y)) (turned (half + half) (signed_by half y)) 0 ≡ y
  signed_word_of = ap (λ (t : Bool). cond t (turned (half + half) (signed_by half y)) 0) signed_fits ∙ signed_turned

-- a number that is 0 or 1, by its test
pub flag_of : (n : ℕ) → n ≤ 1 → cond (eqb n 1) 1 0 ≡ n
flag_of n h = go (eqb n 1) refl
  where
    go : (t : Bool) → eqb n 1 ≡ t → cond t 1 0 ≡ n
    go true e = sym (eqb-true n 1 e)
    go false e = omega (arith, eqb-false n 1 e)

-- ---- quality bytes: a number is the sum of its bits
bit_value : (k x : ℕ) → cond (bit k x) (2 ^ k) 0 ≡ 2 ^ k * (x / 2 ^ k % 2)
bit_value k x = go (x / 2 ^ k % 2) (mod-lt (x / 2 ^ k) (omega arith))
  where
    go : (y : ℕ) → y < 2 → cond (eqb y 1) (2 ^ k) 0 ≡ 2 ^ k * y
    go zero h = sym (mul-zero (2 ^ k))
    go (suc zero) h = sym (mul-one (2 ^ k))
    go (suc (suc y)) h = none_below y (omega arith)

bits_value : (n x : ℕ) → sumℕ n (λ k. cond (bit k x) (2 ^ k) 0) ≡ x % 2 ^ n
unfolding sumℕ
bits_value zero x = sym (mod-one x)
bits_value (suc n) x = ap₂ ◌+◌ (bits_value n x) (bit_value n x) ∙ mod_parts (2 ^ n) x 2 ∙ ap (λ (m : ℕ). x % m) (sym (pow-suc 2 n))

-- a byte's bit past the last point is 0
bit_past : (k x : ℕ) → 3 ≤ k → x ≤ 7 → bit k x ≡ false
bit_past k x h l =
    let power : 8 ≤ 2 ^ k = pow-le-pow_right (omega arith) h in
    let none : x / 2 ^ k ≡ 0 = div-eq_of_lt (omega arith) in
    rw none

-- the quality bytes that a list of points was read from
pub mark_back : (place : ℕ) (bs : List ℕ) → Bytes bs → number_at 1 (place + 9) bs ≤ 7 → (i : ℕ) → i < 10 →
    mark_handed (quality_in place bs) i ≡ number_at 1 (place + i) bs
mark_back place bs byte spare i h =
    sumℕ_ext 8 _ _ (λ k l. ap (λ (b : Bool). cond b (2 ^ k) 0) (good k l)) ∙ bits_value 8 (number_at 1 (place + i) bs)
    ∙ mod-eq_of_lt (number_below 1 (place + i) bs byte)
  where
    good : (k : ℕ) → k < 8 → good_at (quality_in place bs) (8 * i + k) ≡ bit k (number_at 1 (place + i) bs)
    good k l = go (dec_lt (8 * i + k) points)
      where
        low : (8 * i + k) % 8 ≡ k
        low = omega arith

        high : (8 * i + k) / 8 ≡ i
        high = omega arith

        go : Dec (8 * i + k < points) → good_at (quality_in place bs) (8 * i + k) ≡ bit k (number_at 1 (place + i) bs)
        go (yes inside) = listed_from_zero points _ (8 * i + k) false inside ∙ ap₂ (λ (a b : ℕ). bit a (number_at 1 (place + b) bs)) low high
        go (no outside) =
            let ninth : i ≡ 9 = omega arith in
            let past : length (quality_in place bs) ≤ 8 * i + k =
            rw (listed_length 0 points (λ t. bit (t % 8) (number_at 1 (place + t / 8) bs))) (omega arith) in
            get_d_past (quality_in place bs) (8 * i + k) false past
            ∙ sym (bit_past k (number_at 1 (place + i) bs) (omega arith) (rw ninth spare))
