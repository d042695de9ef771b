-- Laws of lists and sums that the chain stands on: parts of a list that are placed one behind the other or inside what is filled, what a unit moves in
-- the sums of all regions, its row, whose figures they are, and lists of values by index.
use mathlib.Core.Path.{◌≡◌, refl, sym, ◌∙◌, ap, ap₂}
use mathlib.Core.Bool.{Bool, true, false, ◌||◌}
use mathlib.Core.List.{List, [], ◌∷◌, ◌++◌}
use Prim.Native.Nat.{ℕ, zero, suc, ◌+◌, ◌*◌, ◌/◌, ◌%◌, ◌≤◌, ◌<◌}
use native.Mathlib.Nat.{
  zero-add,
  add-zero,
  suc-add,
  mul-suc,
  mul-add-div,
  div-eq_of_lt,
  mul-add-mod_self_left,
  mod-eq_of_lt,
  mul-le-mul_left,
}
use native.Mathlib.Omega.{arith}
use lib.Dec.{eqb}
use lib.IntN.{ℤ, pos, ◌+ℤ◌, ◌-ℤ◌, ◌*ℤ◌, +ℤ_idr}
use lib.ListN.{length, get_or, set}
use borrow.Author.Tests.{eq-eqb, ne_eqb}
use Rattle.integers.specs.Sums.{sum, when, one}
use Rattle.integers.proofs.Sums.{sum_ext, none_below, every_all, every_fails}
use Rattle.integers.specs.Totals.{total, All}
use Rattle.integers.proofs.Totals.{total_more}
use Rattle.integers.specs.Fills.{filled}
use Rattle.integers.proofs.Fills.{filled_none, filled_ext, filled_at}
use Rattle.rules.specs.declared.Direction.TheVariants.{Raise, Lower}
use Rattle.rules.specs.Quantities.{points, regions}
use Rattle.rules.specs.Bytes.{listed}
use Rattle.rules.specs.Plants.{Plant}
use Rattle.rules.specs.Performance.{wanted, performance}
use Rattle.interval.specs.Lent.{put_from, sums_each, sums_start, sums_length, moved, row_of, figures_each, is_number, of_interval}

pub or_true : (b : Bool) → b || true ≡ true
or_true true = refl
or_true false = refl

-- ---- parts that are placed
module _ {A : Type 0} where
  -- behind what is filled
  pub placed_next : (place n : ℕ) (g G : ℕ → A) (xs : List A) → ((i : ℕ) → i < n → g i ≡ G (place + i)) →
      put_from place n g (filled place G xs) ≡ filled (place + n) G xs
  unfolding filled
  placed_next zero n g G xs e = rw (filled_none G xs, zero-add n) (filled_ext n g G xs (λ i h. e i h ∙ ap G (zero-add i)))
  placed_next (suc place) n g G [] e = refl
  placed_next (suc place) n g G (x ∷ xs) e =
      rw (suc-add place n) (ap (λ (l : List A). G 0 ∷ l) (placed_next place n g (λ i. G (suc i)) xs (λ i h. e i h ∙ ap G (suc-add place i))))

  -- ---- blocks of n numbers: the i-th of block k stands at n * k + i
  pub in_block : (n : ℕ) (f : ℕ → ℕ → A) (k i : ℕ) → i < n → f ((n * k + i) / n) ((n * k + i) % n) ≡ f k i
  in_block n f k i h =
      ap₂ f (mul-add-div (omega arith) k i ∙ ap (λ (q : ℕ). k + q) (div-eq_of_lt h) ∙ add-zero k) (mul-add-mod_self_left n k i ∙ mod-eq_of_lt h)

  -- read from the first m blocks
  pub block_at : (n m : ℕ) (G : ℕ → A) (xs : List A) (k i : ℕ) (z : A) → i < n → k < m → n * suc k ≤ length xs →
      get_or (filled (n * m) G xs) (n * k + i) z ≡ G (n * k + i)
  block_at n m G xs k i z b h l = filled_at (n * m) G xs (n * k + i) z (omega (arith, mul-le-mul_left n h)) (omega arith)

  -- the next one
  pub block_next : (n k : ℕ) (g G : ℕ → A) (xs : List A) → ((i : ℕ) → i < n → g i ≡ G (n * k + i)) →
      put_from (n * k) n g (filled (n * k) G xs) ≡ filled (n * suc k) G xs
  block_next n k g G xs e = placed_next (n * k) n g G xs e ∙ ap (λ (m : ℕ). filled m G xs) (sym (mul-suc n k))

  filled_inside : (n m : ℕ) (g G H : ℕ → A) (xs : List A) → n ≤ m → ((i : ℕ) → i < n → H i ≡ g i) → ((j : ℕ) → n ≤ j → H j ≡ G j) →
      filled n g (filled m G xs) ≡ filled m H xs
  unfolding filled
  filled_inside zero m g G H xs l at past = filled_none g (filled m G xs) ∙ filled_ext m G H xs (λ j h. sym (past j (omega arith)))
  filled_inside (suc n) zero g G H xs l at past = none_below n l
  filled_inside (suc n) (suc m) g G H [] l at past = refl
  filled_inside (suc n) (suc m) g G H (x ∷ xs) l at past =
      ap₂ (λ (y : A) (ys : List A). y ∷ ys) (sym (at 0 (omega arith)))
      (filled_inside n m (λ i. g (suc i)) (λ i. G (suc i)) (λ i. H (suc i)) xs (omega arith) (λ i h. at (suc i) (omega arith))
      (λ j h. past (suc j) (omega arith)))

  -- inside what is filled
  pub placed_inside : (place n m : ℕ) (g G H : ℕ → A) (xs : List A) → place + n ≤ m → ((i : ℕ) → i < n → H (place + i) ≡ g i) →
      ((j : ℕ) → j < place → H j ≡ G j) → ((j : ℕ) → place + n ≤ j → H j ≡ G j) → put_from place n g (filled m G xs) ≡ filled m H xs
  unfolding filled
  placed_inside zero n m g G H xs l at before past =
      filled_inside n m g G H xs (omega arith) (λ i h. ap H (sym (zero-add i)) ∙ at i h) (λ j h. past j (omega arith))
  placed_inside (suc place) n zero g G H xs l at before past = none_below (place + n) (omega arith)
  placed_inside (suc place) n (suc m) g G H [] l at before past = refl
  placed_inside (suc place) n (suc m) g G H (x ∷ xs) l at before past =
      ap₂ (λ (y : A) (ys : List A). y ∷ ys) (sym (before 0 (omega arith)))
      (placed_inside place n m g (λ i. G (suc i)) (λ i. H (suc i)) xs (omega arith) (λ i h. ap H (sym (suc-add place i)) ∙ at i h)
      (λ j h. before (suc j) (omega arith)) (λ j h. past (suc j) (omega arith)))

  -- one of the numbers filled is another
  pub set_inside : (n at : ℕ) (z : A) (g G : ℕ → A) (xs : List A) → at < n → ((i : ℕ) → i < at → G i ≡ g i) → G at ≡ z →
      ((i : ℕ) → at < i → i < n → G i ≡ g i) → set (filled n g xs) at z ≡ filled n G xs
  unfolding filled
  set_inside zero at z g G xs h before here past = none_below at h
  set_inside (suc n) at z g G [] h before here past = refl
  set_inside (suc n) zero z g G (x ∷ xs) h before here past =
      ap₂ (λ (y : A) (ys : List A). y ∷ ys) (sym here) (filled_ext n _ _ xs (λ i b. sym (past (suc i) (omega arith) (omega arith))))
  set_inside (suc n) (suc at) z g G (x ∷ xs) h before here past =
      ap₂ (λ (y : A) (ys : List A). y ∷ ys) (sym (before 0 (omega arith)))
      (set_inside n at z (λ i. g (suc i)) (λ i. G (suc i)) xs (omega arith) (λ i b. before (suc i) (omega arith)) here
      (λ i a b. past (suc i) (omega arith) (omega arith)))

-- ---- a home is twice the region, and 1 more where the plant is good
pub home_region : (r : ℕ) (t : Bool) → (2 * r + one t) / 2 ≡ r
home_region r true = omega arith
home_region r false = omega arith

pub home_good : (r : ℕ) (t : Bool) → eqb ((2 * r + one t) % 2) 1 ≡ t
home_good r true = let e : (2 * r + 1) % 2 ≡ 1 = omega arith in ap (λ (n : ℕ). eqb n 1) e
home_good r false = let e : (2 * r + 0) % 2 ≡ 0 = omega arith in ap (λ (n : ℕ). eqb n 1) e

-- ---- a plant's part, moved in the sums of all regions
pub moved_adds : (r : ℕ) (before after G : ℕ → ℤ) (xs : List ℤ) → r < regions → sums_length ≤ length xs →
    moved r before after (filled sums_length G xs) ≡
    filled sums_length (λ j. G j +ℤ when (eqb (j / sums_each) r) (after (j % sums_each) -ℤ before (j % sums_each))) xs
moved_adds r before after G xs h l =
    placed_inside (sums_start r) sums_each sums_length _ G (λ j. G j +ℤ w j) xs (omega arith)
    (λ i b. ap₂ ◌+ℤ◌ (sym (filled_at sums_length G xs (sums_start r + i) (pos 0) (omega arith) (omega arith))) (inside i b))
    (λ j b. outside j (λ e. omega arith))
    (λ j b. outside j (λ e. omega arith))
  where
    w : ℕ → ℤ
    w j = when (eqb (j / sums_each) r) (after (j % sums_each) -ℤ before (j % sums_each))

    inside : (i : ℕ) → i < sums_each → w (sums_start r + i) ≡ after i -ℤ before i
    inside i h = in_block sums_each (λ s i. when (eqb s r) (after i -ℤ before i)) r i h ∙ rw (eq-eqb r r refl)

    outside : (j : ℕ) → (j / sums_each ≡ r → ⊥) → G j +ℤ w j ≡ G j
    outside j f = rw (ne_eqb (j / sums_each) r f) (+ℤ_idr (G j))

-- ---- a row looks at the measures and the deviations of the 75 points alone
pub row_same : (w w' : ℕ → ℤ) (p : Plant) → ((t : ℕ) → t < points → w t ≡ w' t) → (i : ℕ) → row_of w p i ≡ row_of w' p i
unfolding performance
row_same w w' p h zero = sum_ext points _ _ (λ t l. ap (λ (z : ℤ). wanted Raise z *ℤ p.deviation t) (h t l))
row_same w w' p h (suc zero) = sum_ext points _ _ (λ t l. ap (λ (z : ℤ). wanted Lower z *ℤ p.deviation t) (h t l))
row_same w w' p h (suc (suc i)) = refl

-- ---- whose figures they are: of a book where all regions have its number, and of none that has another number than some region
module _ (n : ℕ) (xs : List ℤ) where
  pub of_interval_all : ((r : ℕ) → r < regions → get_or xs (figures_each * r) (pos 0) ≡ pos n) → of_interval n xs ≡ true
  unfolding of_interval
  of_interval_all e = every_all regions _ (λ r h. ap (is_number n) (e r h) ∙ eq-eqb n n refl)

  pub of_interval_none : (r m : ℕ) → r < regions → get_or xs (figures_each * r) (pos 0) ≡ pos m → (n ≡ m → ⊥) → of_interval n xs ≡ false
  unfolding of_interval
  of_interval_none r m h e other = every_fails regions _ r h (ap (is_number n) e ∙ ne_eqb m n (λ f. other (sym f)))

-- ---- a list of values by index
module _ {A : Type 0} where
  pub listed_more : (i n : ℕ) (f : ℕ → A) → listed i (suc n) f ≡ listed i n f ++ (f (i + n) ∷ [])
  unfolding listed
  listed_more i zero f = ap (λ (k : ℕ). f k ∷ []) (omega arith)
  listed_more i (suc n) f = ap (λ (l : List A). f i ∷ l) (listed_more (suc i) n f ∙ ap (λ (k : ℕ). listed (suc i) n f ++ (f k ∷ [])) (omega arith))

  -- the same list, counted from one less
  pub listed_shift : (i n : ℕ) (f : ℕ → A) → listed (suc i) n f ≡ listed i n (λ j. f (suc j))
  unfolding listed
  listed_shift i zero f = refl
  listed_shift i (suc n) f = ap (λ (l : List A). f (suc i) ∷ l) (listed_shift (suc i) n f)

  pub listed_ext : (i n : ℕ) (f g : ℕ → A) → ((j : ℕ) → j < i + n → f j ≡ g j) → listed i n f ≡ listed i n g
  unfolding listed
  listed_ext i zero f g e = refl
  listed_ext i (suc n) f g e = ap₂ (λ (y : A) (ys : List A). y ∷ ys) (e i (omega arith)) (listed_ext (suc i) n f g (λ j h. e j (omega arith)))

  pub listed_length : (i n : ℕ) (f : ℕ → A) → length (listed i n f) ≡ n
  unfolding listed
  listed_length i zero f = refl
  listed_length i (suc n) f = ap suc (listed_length (suc i) n f)

  pub listed_total : (f : A → ℤ) (n : ℕ) (g : ℕ → A) → total f (listed 0 n g) ≡ sum n (λ i. f (g i))
  unfolding sum listed total
  listed_total f zero g = refl
  listed_total f (suc n) g =
      ap (total f) (listed_more 0 n g) ∙ total_more f (listed 0 n g) (g (0 + n)) ∙ ap₂ ◌+ℤ◌ (listed_total f n g) (ap (λ (k : ℕ). f (g k)) (zero-add n))

-- what holds of each value holds of all
pub all_listed : {A : Type 0} (P : A → Type 0) (n : ℕ) (f : ℕ → A) → ((i : ℕ) → i < n → P (f i)) → All P (listed 0 n f)
unfolding All listed
all_listed P zero f h = tt
all_listed {A} P (suc n) f h = (h 0 (omega arith), rw (listed_shift 0 n f) (all_listed P n (λ i. f (suc i)) (λ i b. h (suc i) (omega arith))))
