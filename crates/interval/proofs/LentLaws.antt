-- Laws of lent lists: numbers that are placed in one part of a list, and what stays of the others.
use mathlib.Core.Path.{◌≡◌, refl, sym, ◌∙◌, ap}
use mathlib.Core.Bool.{Bool, true, false, false≢true}
use mathlib.Core.List.{List, [], ◌∷◌, ◌++◌, append-nil}
use Prim.Native.Nat.{ℕ, zero, suc, ◌+◌, ◌-◌, ◌≤◌, ◌<◌}
use native.Mathlib.Numerals.{add-one}
use native.Mathlib.Nat.{zero-add, add-zero, suc-add}
use native.Mathlib.Omega.{arith}
use lib.Dec.{eqb, leb, ltb}
use lib.IntN.{ℤ, pos, negsuc}
use lib.ListN.{length, get_or, set, take, drop, length-drop, drop_of_length-le}
use lib.Seq.{take_all}
use borrow.Rule.Slice.PartMut.{put_mid}
use borrow.Author.Tests.{ltb-true, ltb-false, eqb-true, eqb-false, ne_eqb, le-leb, lt-leb}
use Rattle.integers.proofs.Sums.{none_below}
use Rattle.integers.specs.Fills.{filled}
use Rattle.integers.proofs.Fills.{filled_none, filled_more, filled_length, filled_at, filled_past, filled_ext}
use lib.Signed.{lt_z, le_z}
use Rattle.interval.specs.Lent.{put_from, is_number}

module _ {A : Type 0} where
  filled_empty : (n : ℕ) (g : ℕ → A) → filled n g [] ≡ []
  filled_empty n g = none (filled n g []) (filled_length n g [])
    where
      none : (xs : List A) → length xs ≡ 0 → xs ≡ []
      none [] e = refl
      none (x ∷ xs) e = absurd (omega arith)

  pub put_none : (start : ℕ) (g : ℕ → A) (xs : List A) → put_from start 0 g xs ≡ xs
  put_none zero g xs = filled_none g xs
  put_none (suc start) g [] = filled_none g []
  put_none (suc start) g (x ∷ xs) = ap (λ (ys : List A). x ∷ ys) (put_none start g xs)

  pub put_length : (start n : ℕ) (g : ℕ → A) (xs : List A) → length (put_from start n g xs) ≡ length xs
  put_length zero n g xs = filled_length n g xs
  put_length (suc start) n g [] = filled_length n g []
  put_length (suc start) n g (x ∷ xs) = ap suc (put_length start n g xs)

  -- what is placed stands there
  pub put_at : (start n : ℕ) (g : ℕ → A) (xs : List A) (i : ℕ) (d : A) → i < n → start + i < length xs → get_or (put_from start n g xs) (start + i) d ≡ g i
  put_at zero n g xs i d h l = rw (zero-add i) (filled_at n g xs i d h (omega arith))
  put_at (suc start) n g [] i d h l = none_below (suc start + i) l
  put_at (suc start) n g (x ∷ xs) i d h l = rw (suc-add start i) (put_at start n g xs i d h (omega arith))

  -- what stands before it and after it stays
  pub put_before : (start n : ℕ) (g : ℕ → A) (xs : List A) (i : ℕ) (d : A) → i < start → get_or (put_from start n g xs) i d ≡ get_or xs i d
  put_before zero n g xs i d h = none_below i h
  put_before (suc start) n g [] i d h = rw (filled_empty n g)
  put_before (suc start) n g (x ∷ xs) zero d h = refl
  put_before (suc start) n g (x ∷ xs) (suc i) d h = put_before start n g xs i d (omega arith)

  pub put_past : (start n : ℕ) (g : ℕ → A) (xs : List A) (i : ℕ) (d : A) → start + n ≤ i → get_or (put_from start n g xs) i d ≡ get_or xs i d
  put_past zero n g xs i d h = filled_past n g xs i d (omega arith)
  put_past (suc start) n g [] i d h = rw (filled_empty n g)
  put_past (suc start) n g (x ∷ xs) zero d h = refl
  put_past (suc start) n g (x ∷ xs) (suc i) d h = put_past start n g xs i d (omega arith)

  pub put_ext : (start n : ℕ) (f g : ℕ → A) (xs : List A) → ((i : ℕ) → i < n → f i ≡ g i) → put_from start n f xs ≡ put_from start n g xs
  put_ext start n f g xs e = ap (λ (ys : List A). take start xs ++ ys) (filled_ext n f g (drop start xs) e)

  -- one more
  put_more : (start n : ℕ) (g : ℕ → A) (xs : List A) → set (put_from start n g xs) (start + n) (g n) ≡ put_from start (n + 1) g xs
  put_more zero n g xs = rw (zero-add n) (filled_more n g xs)
  put_more (suc start) n g [] = rw (filled_empty n g, filled_empty (n + 1) g)
  put_more (suc start) n g (x ∷ xs) = rw (suc-add start n) (ap (λ (ys : List A). x ∷ ys) (put_more start n g xs))

  pub put_store : (start n : ℕ) (g : ℕ → A) (xs ys : List A) (place : ℕ) (z : A) → ys ≡ put_from start n g xs → place ≡ start + n → z ≡ g n →
      set ys place z ≡ put_from start (n + 1) g xs
  put_store start n g xs ys place z e at is = rw (e, at, is) (put_more start n g xs)

  -- numbers that are placed right after others
  pub put_further : (start m n : ℕ) (g : ℕ → A) (xs : List A) → put_from (start + m) n (λ i. g (m + i)) (put_from start m g xs) ≡ put_from start (m + n) g xs
  put_further start m zero g xs = put_none (start + m) (λ i. g (m + i)) (put_from start m g xs) ∙ ap (λ (k : ℕ). put_from start k g xs) (sym (add-zero m))
  put_further start m (suc n) g xs =
      let more = put_store (start + m) n (λ i. g (m + i)) (put_from start m g xs) (put_from start (m + n) g xs) (start + (m + n)) (g (m + n))
      (sym (put_further start m n g xs)) (omega arith) refl in
      let all = put_store start (m + n) g xs (put_from start (m + n) g xs) (start + (m + n)) (g (m + n)) refl refl refl in
      let one_more : n + 1 ≡ suc n = add-one n in
      rw (← one_more) (sym more ∙ all ∙ ap (λ (k : ℕ). put_from start k g xs) (omega arith))

-- ---- a part that is lent from a place to the end: what it holds, and the whole once it is back
module _ {A : Type 0} where
  pub part_is : (start : ℕ) (xs : List A) → take (length xs - start) (drop start xs) ≡ drop start xs
  part_is start xs = take_all (length xs - start) (drop start xs) (simp length-drop (omega arith))

  pub part_back : (start : ℕ) (xs ys : List A) → put_mid start (length xs - start) xs ys ≡ take start xs ++ ys
  part_back start xs ys =
      let rest : length (drop start xs) ≤ length xs - start = simp length-drop (omega arith) in
      ap (λ (zs : List A). take start xs ++ zs) (ap (λ (zs : List A). ys ++ zs) (drop_of_length-le (drop start xs) rest) ∙ append-nil ys)

-- ---- a number is it, by two signed tests
pub number_below : (n : ℕ) (x : ℤ) → lt_z x (pos n) ≡ true → is_number n x ≡ false
number_below n (pos a) h = ne_eqb a n (λ e. omega (arith, ltb-true a n h))
number_below n (negsuc a) h = refl

pub number_above : (n : ℕ) (x : ℤ) → lt_z x (pos n) ≡ false → le_z x (pos n) ≡ is_number n x
number_above n (pos a) h = go (eqb a n) refl
  where
    go : (same : Bool) → eqb a n ≡ same → leb a n ≡ same
    go true e = le-leb a n (omega (arith, eqb-true a n e))
    go false e = lt-leb a n (above (ltb n a) refl)
      where
        above : (more : Bool) → ltb n a ≡ more → n < a
        above true f = ltb-true n a f
        above false f = absurd (eqb-false a n e (omega (arith, ltb-false a n h, ltb-false n a f)))
number_above n (negsuc a) h = absurd (false≢true (sym h))
