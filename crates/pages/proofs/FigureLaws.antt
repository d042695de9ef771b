-- Laws of figures: how many characters a number has, and how long its 16 places are.
use mathlib.Core.Path.{◌≡◌, refl, sym, ◌∙◌, ap, subst}
use mathlib.Core.Bool.{Bool, true, false, cond}
use mathlib.Core.List.{List, [], ◌∷◌, ◌++◌}
use Prim.Native.Nat.{ℕ, zero, suc, ◌+◌, ◌-◌, ◌/◌, ◌%◌, ◌≤◌, ◌<◌, ◌^◌}
use native.Mathlib.Omega.{arith}
use native.Mathlib.Nat.{pow-suc, le-div_iff_mul-le}
use borrow.Author.Tests.{leb-true, ltb-true, ltb-false, le-leb, lt-leb, lt-ltb, le-ltb}
use lib.Dec.{leb, ltb}
use lib.IntN.{ℤ, pos, negsuc, nat_abs}
use lib.Signed.{lt_z}
use lib.ListN.{length, length-append}
use Rattle.integers.proofs.Pairs.{lt_in}
use Rattle.integers.proofs.Tests.{ltZ_true}
use Rattle.rules.specs.Text.{text, digits, natural, integer}
use Rattle.rules.specs.Panel.{repeated, spaces, hashes, at_right, placed, figure}
use Rattle.listing.specs.Pieces.{Room, Put, PutWhereRoom}
use Rattle.listing.proofs.PiecesLaws.{digits_last, digits_more, put_before, put_there}
use Rattle.report_row.proofs.PieceLaws.{Ten, below_ten, from_ten, ten, digits_few}
use Rattle.pages.specs.Amounts.{signed, value, amount_of}
use Rattle.pages.specs.declared.Amount.{Amount}
use Rattle.pages.proofs.RepeatedLaws.{repeated_long}

power_some : (k : ℕ) → 0 < 10 ^ k
power_some zero = omega arith
power_some (suc k) = omega (arith, pow-suc 10 k, power_some k)

-- a number from a power of ten on has more digits than the power
pub digits_many : (places most n : ℕ) → 10 ^ places ≤ n → places < most → places < length (digits most n)
unfolding digits
digits_many places zero n h few = absurd (omega arith)
digits_many zero (suc most) n h few = go (ten n)
  where
    go : Ten n → 0 < length (digits (suc most) n)
    go (below_ten l) = rw (digits_last most n l) (omega arith)
    go (from_ten l) = rw (digits_more most n l) (omega (arith, length-append (digits most (n / 10)) ((48 + n % 10) ∷ [])))
digits_many (suc places) (suc most) n h few = go (ten n) (digits_many places most (n / 10) up (omega arith))
  where
    up : 10 ^ places ≤ n / 10
    up = (le-div_iff_mul-le {k = 10} {x = 10 ^ places} {y = n} (omega arith)).1 (rw (pow-suc 10 places) at h)

    go : Ten n → places < length (digits most (n / 10)) → suc places < length (digits (suc most) n)
    go (below_ten l) more = absurd (omega (arith, up, power_some places))
    go (from_ten l) more = rw (digits_more most n l) (omega (arith, more, length-append (digits most (n / 10)) ((48 + n % 10) ∷ [])))

-- ---- 16 places
pub placed_there : (number : List ℕ) → length number ≤ 16 → placed number ≡ at_right 16 number
unfolding placed
placed_there number h = rw (le-leb (length number) 16 h)

pub placed_hashes : (number : List ℕ) → 16 < length number → placed number ≡ hashes 16
unfolding placed
placed_hashes number h = rw (lt-leb (length number) 16 h)

pub placed_long : (number : List ℕ) → length (placed number) ≡ 16
unfolding placed
placed_long number = go (leb (length number) 16) refl
  where
    go : (t : Bool) → leb (length number) 16 ≡ t → length (cond t (at_right 16 number) (hashes 16)) ≡ 16
    go true e =
        length-append (spaces (16 - length number)) number ∙ omega (arith, repeated_long 32 (16 - length number), leb-true (length number) 16 e)
    go false e = repeated_long 35 16

-- ---- a number by its sign and size
pub below_text : (size : ℕ) → 0 < size → integer (signed true size) ≡ text "-" ++ natural size
below_text zero h = absurd (omega arith)
below_text (suc n) h = refl

pub below_none : integer (signed true 0) ≡ natural 0
below_none = refl

-- over 16 characters, sign included
pub long_above : (size : ℕ) → ltb 9_999_999_999_999_999 size ≡ ltb 16 (length (integer (signed false size)))
long_above size = go (ltb 9_999_999_999_999_999 size) refl
  where
    go : (t : Bool) → ltb 9_999_999_999_999_999 size ≡ t → t ≡ ltb 16 (length (natural size))
    go true e =
        sym (lt-ltb 16 (length (natural size)) (digits_many 16 20 size (omega (arith, ltb-true 9_999_999_999_999_999 size e)) (omega arith)))
    go false e = sym (le-ltb 16 (length (natural size)) (digits_few 15 20 size (omega (arith, ltb-false 9_999_999_999_999_999 size e))))

pub long_below : (size : ℕ) → ltb 999_999_999_999_999 size ≡ ltb 16 (length (integer (signed true size)))
unfolding text
long_below zero = sym (le-ltb 16 (length (natural 0)) (digits_few 15 20 0 (omega arith)))
long_below (suc n) = go (ltb 999_999_999_999_999 (suc n)) refl
  where
    go : (t : Bool) → ltb 999_999_999_999_999 (suc n) ≡ t → t ≡ ltb 16 (suc (length (natural (suc n))))
    go true e =
        sym (lt-ltb 16 (suc (length (natural (suc n))))
        (omega (arith, digits_many 15 20 (suc n) (omega (arith, ltb-true 999_999_999_999_999 (suc n) e)) (omega arith))))
    go false e =
        sym (le-ltb 16 (suc (length (natural (suc n))))
        (omega (arith, digits_few 14 20 (suc n) (omega (arith, ltb-false 999_999_999_999_999 (suc n) e)))))

-- a number is its size, turned where it is below zero
pub sized : (x : ℤ) → signed (lt_z x (pos 0)) (nat_abs x) ≡ x
sized (pos n) = go (lt_z (pos n) (pos 0)) refl
  where
    go : (t : Bool) → lt_z (pos n) (pos 0) ≡ t → signed t n ≡ pos n
    go true e = absurd (omega (arith, lt_in {a = pos n} {b = pos 0} (ltZ_true e)))
    go false e = refl
sized (negsuc n) = refl

-- spaces before a number, as many as its characters leave of 16 places
pub figure_put : (x : ℤ) {at start r : ℕ} {old mid new : List ℕ} → length (integer x) ≤ 16 → Put (integer x) at old start mid →
    Put (repeated 32 (16 + start - at)) start mid r new → Put (figure x) at old r new
figure_put x {at} {start} few number before =
    let e : 16 + start - at ≡ 16 - length (integer x) = omega (arith, few, number.place) in
    rw (placed_there (integer x) few) (put_before number (rw e at before))

-- ---- the digits of a size, and the sign before them
module _ (below : Bool) (size : ℕ) {at d : ℕ} {old mid : List ℕ} (digits_put : Put (natural size) at old d mid) where
  pub digits_alone : below ≡ false → Put (integer (signed below size)) at old d mid
  digits_alone e = rw e digits_put

  pub digits_of_none : size ≡ 0 → Put (integer (signed below size)) at old d mid
  digits_of_none e = subst (λ (t : List ℕ). Put t at old d mid) (same below size e) digits_put
    where
      same : (b : Bool) (n : ℕ) → n ≡ 0 → natural n ≡ integer (signed b n)
      same false n e = refl
      same true n e = ap natural e ∙ sym below_none ∙ ap (λ (k : ℕ). integer (signed true k)) (sym e)

  -- 16 places leave room for it
  pub sign_put : below ≡ true → 0 < size → length (integer (signed below size)) ≤ 16 → Room 20 at old → {r : ℕ} {new : List ℕ} →
      PutWhereRoom 1 (text "-") d mid r new → Put (integer (signed below size)) at old r new
  unfolding text
  sign_put e some few room {r} {new} p =
      let minus : integer (signed below size) ≡ text "-" ++ natural size = rw e (below_text size some) in
      let short : suc (length (natural size)) ≤ 16 = subst (λ (t : List ℕ). length t ≤ 16) minus few in
      subst (λ (t : List ℕ). Put t at old r new) (sym minus)
      (put_before digits_put
      (put_there
      (record {
        free = omega (arith, short, digits_put.place, room.free);
        inside = omega (arith, digits_put.size, digits_put.place, room.inside);
      })
      p))

pub positive : (n : ℕ) → (n ≡ 0 → ⊥) → 0 < n
positive zero h = absurd (h refl)
positive (suc n) h = omega arith

pub hashes_put : (x : ℤ) {at r : ℕ} {old new : List ℕ} → 16 < length (integer x) → Put (repeated 35 16) at old r new → Put (figure x) at old r new
hashes_put x many p = rw (placed_hashes (integer x) many) p

pub figure_of : {x y : ℤ} {at r : ℕ} {old new : List ℕ} → x ≡ y → Put (figure x) at old r new → Put (figure y) at old r new
figure_of {at = at} {r = r} {old = old} {new = new} e p = subst (λ (z : ℤ). Put (figure z) at old r new) e p

-- a number's own sign and size say it
pub amount_said : {x : ℤ} {a : Amount} → a ≡ amount_of x → value a ≡ x
amount_said {x} e = ap value e ∙ sized x
