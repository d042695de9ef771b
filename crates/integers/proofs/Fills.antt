-- Laws of the definitions in specs/Fills.antt.
use mathlib.Core.Path.{◌≡◌, refl, sym, ◌∙◌, ap, ap₂}
use mathlib.Core.Bool.{cond}
use mathlib.Core.List.{List, [], ◌∷◌}
use Prim.Native.Nat.{ℕ, zero, suc, ◌+◌, ◌<◌, ◌≤◌}
use native.Mathlib.Numerals.{add-one}
use native.Mathlib.Decide.{ℕ_discrete}
use native.Mathlib.Omega.{arith}
use borrow.Author.Tests.{eq-eqb, ne_eqb}
use lib.Dec.{eqb}
use lib.IntN.{ℤ, pos, ◌+ℤ◌, +ℤ_idr, +ℤ_assoc}
use lib.ListN.{length, get_or, set, length-set}
use lib.Seq.{ext_get_or, get_or-set_same, get_or-set_other}
use Rattle.integers.specs.Bounds.{Within}
use Rattle.integers.proofs.Bounds.{within_sum}
use Rattle.integers.proofs.Sums.{none_below}
use Rattle.integers.specs.Fills.{filled}

-- past the end stands the default
pub get_d_past : {A : Type 0} (xs : List A) (i : ℕ) (d : A) → length xs ≤ i → get_or xs i d ≡ d
get_d_past [] i d h = refl
get_d_past (x ∷ xs) zero d h = none_below (length xs) h
get_d_past (x ∷ xs) (suc i) d h = get_d_past xs i d (omega arith)

-- ---- the first n numbers are g's, the others as they were: what a loop has made so far, and what a call has written
module _ {A : Type 0} where
  -- nothing is made before the first turn
  pub filled_none : (g : ℕ → A) (xs : List A) → filled 0 g xs ≡ xs
  unfolding filled
  filled_none g [] = refl
  filled_none g (x ∷ xs) = refl

  store : (n : ℕ) (g : ℕ → A) (xs : List A) → set (filled n g xs) n (g n) ≡ filled (suc n) g xs
  unfolding filled
  store zero g [] = refl
  store (suc n) g [] = refl
  store zero g (x ∷ xs) = ap (λ (l : List A). g 0 ∷ l) (sym (filled_none (λ i. g (suc i)) xs))
  store (suc n) g (x ∷ xs) = ap (λ (l : List A). g 0 ∷ l) (store n (λ i. g (suc i)) xs)

  -- one store more
  pub filled_more : (n : ℕ) (g : ℕ → A) (xs : List A) → set (filled n g xs) n (g n) ≡ filled (n + 1) g xs
  filled_more n g xs = store n g xs ∙ ap (λ (m : ℕ). filled m g xs) (sym (add-one n))

  -- the same of what a turn has in hand
  pub filled_store : (n : ℕ) (g : ℕ → A) (xs ys : List A) (z : A) → ys ≡ filled n g xs → z ≡ g n → set ys n z ≡ filled (n + 1) g xs
  filled_store n g xs ys z e f = ap₂ (λ (l : List A) (y : A). set l n y) e f ∙ filled_more n g xs

  pub filled_length : (n : ℕ) (g : ℕ → A) (xs : List A) → length (filled n g xs) ≡ length xs
  unfolding filled
  filled_length zero g [] = refl
  filled_length (suc n) g [] = refl
  filled_length zero g (x ∷ xs) = refl
  filled_length (suc n) g (x ∷ xs) = ap suc (filled_length n (λ i. g (suc i)) xs)

  pub filled_at : (n : ℕ) (g : ℕ → A) (xs : List A) (i : ℕ) (d : A) → i < n → i < length xs → get_or (filled n g xs) i d ≡ g i
  unfolding filled
  filled_at zero g xs i d h l = none_below i h
  filled_at (suc n) g [] i d h l = none_below i l
  filled_at (suc n) g (x ∷ xs) zero d h l = refl
  filled_at (suc n) g (x ∷ xs) (suc i) d h l = filled_at n (λ j. g (suc j)) xs i d (omega arith) (omega arith)

  -- numbers past those named stay
  pub filled_past : (n : ℕ) (g : ℕ → A) (xs : List A) (i : ℕ) (d : A) → n ≤ i → get_or (filled n g xs) i d ≡ get_or xs i d
  unfolding filled
  filled_past zero g xs i d h = ap (λ (l : List A). get_or l i d) (filled_none g xs)
  filled_past (suc n) g [] i d h = refl
  filled_past (suc n) g (x ∷ xs) zero d h = none_below n h
  filled_past (suc n) g (x ∷ xs) (suc i) d h = filled_past n (λ j. g (suc j)) xs i d (omega arith)

  pub filled_ext : (n : ℕ) (f g : ℕ → A) (xs : List A) → ((i : ℕ) → i < n → f i ≡ g i) → filled n f xs ≡ filled n g xs
  unfolding filled
  filled_ext zero f g xs e = filled_none f xs ∙ sym (filled_none g xs)
  filled_ext (suc n) f g [] e = refl
  filled_ext (suc n) f g (x ∷ xs) e = rw (e 0 (omega arith), filled_ext n (λ i. f (suc i)) (λ i. g (suc i)) xs (λ i h. e (suc i) (omega arith)))

  -- what is filled again is as if it had been filled once
  pub filled_again : (n : ℕ) (f g : ℕ → A) (xs : List A) → filled n f (filled n g xs) ≡ filled n f xs
  unfolding filled
  filled_again n f g [] = refl
  filled_again zero f g (x ∷ xs) = refl
  filled_again (suc n) f g (x ∷ xs) = ap (λ (l : List A). f 0 ∷ l) (filled_again n (λ i. f (suc i)) (λ i. g (suc i)) xs)

  -- filled with what is there already, nothing changes
  pub filled_same : (n : ℕ) (d : A) (xs : List A) → filled n (λ i. get_or xs i d) xs ≡ xs
  unfolding filled
  filled_same n d [] = refl
  filled_same zero d (x ∷ xs) = refl
  filled_same (suc n) d (x ∷ xs) = ap (λ (l : List A). x ∷ l) (filled_same n d xs)

-- ---- g i is added to the number at i, of every number
unfoldable pub added : (ℕ → ℤ) → List ℤ → List ℤ
added g [] = []
added g (x ∷ xs) = (x +ℤ g 0) ∷ added (λ i. g (suc i)) xs

pub added_length : (g : ℕ → ℤ) (xs : List ℤ) → length (added g xs) ≡ length xs
unfolding added
added_length g [] = refl
added_length g (x ∷ xs) = ap suc (added_length (λ i. g (suc i)) xs)

pub added_at : (g : ℕ → ℤ) (xs : List ℤ) (i : ℕ) → i < length xs → get_or (added g xs) i (pos 0) ≡ get_or xs i (pos 0) +ℤ g i
unfolding added
added_at g [] i h = none_below i h
added_at g (x ∷ xs) zero h = refl
added_at g (x ∷ xs) (suc i) h = added_at (λ j. g (suc j)) xs i (omega arith)

pub added_none : (xs : List ℤ) → added (λ i. pos 0) xs ≡ xs
unfolding added
added_none [] = refl
added_none (x ∷ xs) = rw (+ℤ_idr x, added_none xs)

-- what is added twice is added once, together
pub added_added : (g h : ℕ → ℤ) (xs : List ℤ) → added h (added g xs) ≡ added (λ i. g i +ℤ h i) xs
unfolding added
added_added g h [] = refl
added_added g h (x ∷ xs) = rw (+ℤ_assoc x (g 0) (h 0), added_added (λ i. g (suc i)) (λ i. h (suc i)) xs)

pub added_ext : (g h : ℕ → ℤ) (xs : List ℤ) → ((i : ℕ) → i < length xs → g i ≡ h i) → added g xs ≡ added h xs
unfolding added
added_ext g h [] e = refl
added_ext g h (x ∷ xs) e = rw (e 0 (omega arith), added_ext (λ i. g (suc i)) (λ i. h (suc i)) xs (λ i l. e (suc i) (omega arith)))

-- z at one index, 0 elsewhere
abbrev pub alone : ℕ → ℤ → ℕ → ℤ
alone at z i = cond (eqb i at) z (pos 0)

-- a store of a sum
pub set_adds : (xs : List ℤ) (at : ℕ) (z : ℤ) → at < length xs → set xs at (get_or xs at (pos 0) +ℤ z) ≡ added (alone at z) xs
set_adds xs at z h =
    ext_get_or (pos 0) (set xs at w) (added (alone at z) xs) (length-set xs at w ∙ sym (added_length (alone at z) xs))
    (λ i l. go i (rw length-set at l) (ℕ_discrete i at))
  where
    w : ℤ
    w = get_or xs at (pos 0) +ℤ z

    go : (i : ℕ) → i < length xs → Dec (i ≡ at) → get_or (set xs at w) i (pos 0) ≡ get_or (added (alone at z) xs) i (pos 0)
    go i l (yes e) = rw e (get_or-set_same xs at w (pos 0) h ∙ sym (added_at (alone at z) xs at h
        ∙ ap (λ (y : ℤ). get_or xs at (pos 0) +ℤ y) (rw (eq-eqb at at refl))))
    go i l (no f) = get_or-set_other xs at i w (pos 0) f ∙ sym (added_at (alone at z) xs i l ∙ ap (λ (y : ℤ). get_or xs i (pos 0) +ℤ y) (rw (ne_eqb i at f))
        ∙ +ℤ_idr (get_or xs i (pos 0)))

-- ---- each number of a list is at most k in size
pub record EachWithin (k : ℕ) (xs : List ℤ) : Type 0 where
  pub at : (i : ℕ) → i < length xs → Within k (get_or xs i (pos 0))

pub added_within : {j k : ℕ} {g : ℕ → ℤ} {xs : List ℤ} → ((i : ℕ) → i < length xs → Within j (g i)) → EachWithin k xs → EachWithin (k + j) (added g xs)
added_within {g} {xs} b w =
    record {
      at =
          λ i l.
          let h : i < length xs = omega (arith, added_length g xs) in
          rw (added_at g xs i h) (within_sum (w.at i h) (b i h));
    }
