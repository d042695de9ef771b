-- Laws of the definitions in specs/Totals.antt.
use mathlib.Core.Path.{◌≡◌, refl, sym, ◌∙◌, ap, ap₂}
use mathlib.Core.Bool.{Bool, true, false, cond, ◌&&◌}
use mathlib.Core.List.{List, [], ◌∷◌, ◌++◌, map}
use Prim.Native.Nat.{ℕ, zero, suc, ◌+◌, ◌*◌, ◌≤◌, ◌<◌, max}
use native.Mathlib.Nat.{add-mul}
use native.Mathlib.Omega.{arith}
use lib.Dec.{eqb}
use lib.IntN.{ℤ, pos, negsuc, neg_ℤ, ◌+ℤ◌, ◌*ℤ◌, +ℤ_idl, +ℤ_idr, +ℤ_assoc, *ℤ-zero, neg_ℤ-+ℤ}
use lib.ListN.{length, get_or}
use Rattle.integers.specs.Pairs.{gain, loss}
use Rattle.integers.proofs.Pairs.{add_is, gain_negation}
use Rattle.integers.proofs.Order.{*ℤ-+ℤ, +ℤ-cross}
use Rattle.integers.specs.Sums.{sum, sumℕ, count, one, when, both}
use Rattle.integers.proofs.Sums.{when_swap, none_below, sum_ext, sum_zero, sum_plus, sum_pick, sum_front, sumℕ_front}
use Rattle.integers.specs.Totals.{All, all, numbered, those, total, totalℕ}

-- ---- totals of integers
module _ {A : Type 0} where
  pub total_ext : (p : A → Bool) (f g : A → ℤ) → ((x : A) → p x ≡ true → f x ≡ g x) → (xs : List A) → all p xs ≡ true → total f xs ≡ total g xs
  unfolding total all
  total_ext p f g e [] h = refl
  total_ext p f g e (x ∷ xs) h =
      let b = both (p x) (all p xs) h in
      ap₂ ◌+ℤ◌ (e x b.0) (total_ext p f g e xs b.1)

  pub total_same : (f g : A → ℤ) → ((x : A) → f x ≡ g x) → (xs : List A) → total f xs ≡ total g xs
  unfolding total
  total_same f g e [] = refl
  total_same f g e (x ∷ xs) = ap₂ ◌+ℤ◌ (e x) (total_same f g e xs)

  -- equal for each element of which something holds
  pub total_all : (P : A → Type 0) (f g : A → ℤ) → ((x : A) → P x → f x ≡ g x) → (xs : List A) → All P xs → total f xs ≡ total g xs
  unfolding total All
  total_all P f g e [] a = refl
  total_all P f g e (x ∷ xs) a = ap₂ ◌+ℤ◌ (e x a.0) (total_all P f g e xs a.1)

  pub total_zero : (xs : List A) → total (λ x. pos 0) xs ≡ pos 0
  unfolding total
  total_zero [] = refl
  total_zero (x ∷ xs) = rw (total_zero xs)

  pub total_plus : (f g : A → ℤ) (xs : List A) → total (λ x. f x +ℤ g x) xs ≡ total f xs +ℤ total g xs
  unfolding total
  total_plus f g [] = refl
  total_plus f g (x ∷ xs) = rw (total_plus f g xs) (+ℤ-cross (f x) (g x) (total f xs) (total g xs))

  pub total_negation : (f : A → ℤ) (xs : List A) → total (λ x. neg_ℤ (f x)) xs ≡ neg_ℤ (total f xs)
  unfolding total
  total_negation f [] = refl
  total_negation f (x ∷ xs) = rw (total_negation f xs) (sym (neg_ℤ-+ℤ (f x) (total f xs)))

  pub total_scale : (k : ℤ) (f : A → ℤ) (xs : List A) → total (λ x. k *ℤ f x) xs ≡ k *ℤ total f xs
  unfolding total
  total_scale k f [] = sym (*ℤ-zero k)
  total_scale k f (x ∷ xs) = rw (total_scale k f xs) (sym (*ℤ-+ℤ k (f x) (total f xs)))

  pub total_++ : (f : A → ℤ) (xs ys : List A) → total f (xs ++ ys) ≡ total f xs +ℤ total f ys
  unfolding total
  total_++ f [] ys = sym (+ℤ_idl _)
  total_++ f (x ∷ xs) ys = rw (total_++ f xs ys) (sym (+ℤ_assoc (f x) (total f xs) (total f ys)))

  -- one more element at the end
  pub total_more : (f : A → ℤ) (xs : List A) (x : A) → total f (xs ++ (x ∷ [])) ≡ total f xs +ℤ f x
  unfolding total
  total_more f xs x = total_++ f xs (x ∷ []) ∙ ap (λ (z : ℤ). total f xs +ℤ z) (+ℤ_idr (f x))

  -- the total of those that pass is a total of all
  pub total_those : (p : A → Bool) (f : A → ℤ) (xs : List A) → total f (those p xs) ≡ total (λ x. when (p x) (f x)) xs
  unfolding total those
  total_those p f [] = refl
  total_those p f (x ∷ xs) = go (total_those p f xs) (p x)
    where
      go : total f (those p xs) ≡ total (λ x. when (p x) (f x)) xs → (t : Bool) →
          total f (cond t (x ∷ those p xs) (those p xs)) ≡ when t (f x) +ℤ total (λ x. when (p x) (f x)) xs
      go ih true = ap (λ (z : ℤ). f x +ℤ z) ih
      go ih false = ih ∙ sym (+ℤ_idl _)

  -- a test of the whole is a test of each
  pub total_when : (t : Bool) (f : A → ℤ) (xs : List A) → when t (total f xs) ≡ total (λ x. when t (f x)) xs
  total_when true f xs = refl
  total_when false f xs = sym (total_zero xs)

  -- indexes and list change places
  pub total_swap : (n : ℕ) (f : A → ℕ → ℤ) (xs : List A) → sum n (λ t. total (λ x. f x t) xs) ≡ total (λ x. sum n (f x)) xs
  unfolding total
  total_swap n f [] = sum_zero n
  total_swap n f (x ∷ xs) = sum_plus n (f x) (λ t. total (λ x. f x t) xs) ∙ ap (λ (z : ℤ). sum n (f x) +ℤ z) (total_swap n f xs)

  -- the totals of some classes are the total of those in these classes
  pub total_classes : (n : ℕ) (s : ℕ → Bool) (class : A → ℕ) (f : A → ℤ) (xs : List A) → All (λ x. class x < n) xs →
      sum n (λ r. when (s r) (total f (those (λ x. eqb r (class x)) xs))) ≡ total f (those (λ x. s (class x)) xs)
  total_classes n s class f xs a =
      sum_ext n _ _ (λ r _. ap (when (s r)) (total_those (λ x. eqb r (class x)) f xs) ∙ total_when (s r) (λ x. when (eqb r (class x)) (f x)) xs)
      ∙ total_swap n (λ x r. when (s r) (when (eqb r (class x)) (f x))) xs
      ∙ total_all (λ x. class x < n) _ _ at xs a
      ∙ sym (total_those (λ x. s (class x)) f xs)
    where
      at : (x : A) → class x < n → sum n (λ r. when (s r) (when (eqb r (class x)) (f x))) ≡ when (s (class x)) (f x)
      at x l = sum_ext n _ _ (λ r _. when_swap (s r) (eqb r (class x)) (f x)) ∙ sum_pick n (class x) (λ r. when (s r) (f x)) l

  -- what stands above zero, less what stands below, is the total
  pub total_parts : (f : A → ℤ) (xs : List A) → gain (total f xs) + totalℕ (λ x. loss (f x)) xs ≡ totalℕ (λ x. gain (f x)) xs + loss (total f xs)
  unfolding total totalℕ
  total_parts f [] = refl
  total_parts f (x ∷ xs) = omega (arith, total_parts f xs, add_is (f x) (total f xs))

  -- what stands above zero, with what is needed to make up for what stands below, is the larger of the two
  pub total_larger : (f : A → ℤ) (xs : List A) → totalℕ (λ x. gain (f x)) xs + gain (neg_ℤ (total f xs)) ≡
      max (totalℕ (λ x. gain (f x)) xs) (totalℕ (λ x. loss (f x)) xs)
  total_larger f xs = rw (gain_negation (total f xs)) (go (total f xs) (total_parts f xs))
    where
      go : (z : ℤ) → gain z + totalℕ (λ x. loss (f x)) xs ≡ totalℕ (λ x. gain (f x)) xs + loss z →
          totalℕ (λ x. gain (f x)) xs + loss z ≡ max (totalℕ (λ x. gain (f x)) xs) (totalℕ (λ x. loss (f x)) xs)
      go (pos n) e = omega arith
      go (negsuc n) e = omega arith

-- ---- totals of naturals
module _ {A : Type 0} where
  pub totalℕ_same : (f g : A → ℕ) → ((x : A) → f x ≡ g x) → (xs : List A) → totalℕ f xs ≡ totalℕ g xs
  unfolding totalℕ
  totalℕ_same f g e [] = refl
  totalℕ_same f g e (x ∷ xs) = ap₂ ◌+◌ (e x) (totalℕ_same f g e xs)

  pub total_naturals : (f : A → ℕ) (xs : List A) → total (λ x. pos (f x)) xs ≡ pos (totalℕ f xs)
  unfolding total totalℕ
  total_naturals f [] = refl
  total_naturals f (x ∷ xs) = rw (total_naturals f xs)

  pub totalℕ_≤ : (f g : A → ℕ) → ((x : A) → f x ≤ g x) → (xs : List A) → totalℕ f xs ≤ totalℕ g xs
  unfolding totalℕ
  totalℕ_≤ f g h [] = omega arith
  totalℕ_≤ f g h (x ∷ xs) = omega (arith, h x, totalℕ_≤ f g h xs)

  pub totalℕ_++ : (f : A → ℕ) (xs ys : List A) → totalℕ f (xs ++ ys) ≡ totalℕ f xs + totalℕ f ys
  unfolding totalℕ
  totalℕ_++ f [] ys = omega arith
  totalℕ_++ f (x ∷ xs) ys = omega (arith, totalℕ_++ f xs ys)

  pub totalℕ_times : (f : A → ℕ) (k : ℕ) (xs : List A) → totalℕ (λ x. f x * k) xs ≡ totalℕ f xs * k
  unfolding totalℕ
  totalℕ_times f k [] = omega arith
  totalℕ_times f k (x ∷ xs) = omega (arith, totalℕ_times f k xs, add-mul (f x) (totalℕ f xs) k)

  -- at most so much each is at most the total of that, also of those that pass a test
  pub totalℕ_those_≤ : (P : A → Type 0) (g : A → ℕ) (p : A → Bool) (f : A → ℕ) → ((x : A) → P x → f x ≤ g x) → (xs : List A) → All P xs →
      totalℕ f (those p xs) ≤ totalℕ g xs
  unfolding All totalℕ those
  totalℕ_those_≤ P g p f h [] a = omega arith
  totalℕ_those_≤ P g p f h (x ∷ xs) a = go (totalℕ_those_≤ P g p f h xs a.1) (p x)
    where
      go : totalℕ f (those p xs) ≤ totalℕ g xs → (t : Bool) → totalℕ f (cond t (x ∷ those p xs) (those p xs)) ≤ g x + totalℕ g xs
      go ih true = omega (arith, h x a.0)
      go ih false = omega arith

-- ---- those that pass
module _ {A : Type 0} where
  pub those_length : (p : A → Bool) (xs : List A) → length (those p xs) ≤ length xs
  unfolding those
  those_length p [] = omega arith
  those_length p (x ∷ xs) = go (those_length p xs) (p x)
    where
      go : length (those p xs) ≤ length xs → (t : Bool) → length (cond t (x ∷ those p xs) (those p xs)) ≤ suc (length xs)
      go ih true = omega arith
      go ih false = omega arith

  -- what holds of all holds of those
  pub all_those : (P : A → Type 0) (p : A → Bool) (xs : List A) → All P xs → All P (those p xs)
  unfolding All those
  all_those P p [] h = tt
  all_those P p (x ∷ xs) h = go (all_those P p xs h.1) (p x)
    where
      go : All P (those p xs) → (t : Bool) → All P (cond t (x ∷ those p xs) (those p xs))
      go ih true = (h.0, ih)
      go ih false = ih

  -- those of those pass both tests
  pub those_those : (p q : A → Bool) (xs : List A) → those p (those q xs) ≡ those (λ x. q x && p x) xs
  unfolding those
  those_those p q [] = refl
  those_those p q (x ∷ xs) = go (those_those p q xs) (q x)
    where
      go : those p (those q xs) ≡ those (λ x. q x && p x) xs → (t : Bool) →
          those p (cond t (x ∷ those q xs) (those q xs)) ≡ cond (t && p x) (x ∷ those (λ x. q x && p x) xs) (those (λ x. q x && p x) xs)
      go ih true = ap (λ (l : List A). cond (p x) (x ∷ l) l) ih
      go ih false = ih

  -- what holds of all holds at each index
  pub all_at : (P : A → Type 0) (xs : List A) → All P xs → (j : ℕ) (z : A) → j < length xs → P (get_or xs j z)
  unfolding All
  all_at P [] a j z h = none_below j h
  all_at P (x ∷ xs) a zero z h = a.0
  all_at P (x ∷ xs) a (suc j) z h = all_at P xs a.1 j z (omega arith)

  -- what holds of each has its consequences of each
  pub all_so : (P Q : A → Type 0) → ((x : A) → P x → Q x) → (xs : List A) → All P xs → All Q xs
  unfolding All
  all_so P Q f [] a = tt
  all_so P Q f (x ∷ xs) a = (f x a.0, all_so P Q f xs a.1)

-- ---- over an image, over two lists joined, over indexes
pub all_++ : {A : Type 0} (p : A → Bool) (xs ys : List A) → all p (xs ++ ys) ≡ all p xs && all p ys
unfolding all
all_++ p [] ys = refl
all_++ p (x ∷ xs) ys = ap (λ (t : Bool). p x && t) (all_++ p xs ys) ∙ assoc (p x) (all p xs) (all p ys)
  where
    assoc : (r s t : Bool) → r && (s && t) ≡ r && s && t
    assoc true s t = refl
    assoc false s t = refl

pub all_map : {A B : Type 0} (p : B → Bool) (f : A → B) (xs : List A) → all p (map f xs) ≡ all (λ x. p (f x)) xs
unfolding all
all_map p f [] = refl
all_map p f (x ∷ xs) = ap (λ (t : Bool). p (f x) && t) (all_map p f xs)

pub total_map : {A B : Type 0} (g : B → ℤ) (f : A → B) (xs : List A) → total g (map f xs) ≡ total (λ x. g (f x)) xs
unfolding total
total_map g f [] = refl
total_map g f (x ∷ xs) = ap (λ (z : ℤ). g (f x) +ℤ z) (total_map g f xs)

pub totalℕ_map : {A B : Type 0} (g : B → ℕ) (f : A → B) (xs : List A) → totalℕ g (map f xs) ≡ totalℕ (λ x. g (f x)) xs
unfolding totalℕ
totalℕ_map g f [] = refl
totalℕ_map g f (x ∷ xs) = ap (λ (z : ℕ). g (f x) + z) (totalℕ_map g f xs)

pub those_++ : {A : Type 0} (p : A → Bool) (xs ys : List A) → those p (xs ++ ys) ≡ those p xs ++ those p ys
unfolding those
those_++ p [] ys = refl
those_++ p (x ∷ xs) ys = go (those_++ p xs ys) (p x)
  where
    go : those p (xs ++ ys) ≡ those p xs ++ those p ys → (t : Bool) → cond t (x ∷ those p (xs ++ ys)) (those p (xs ++ ys)) ≡
        cond t (x ∷ those p xs) (those p xs) ++ those p ys
    go ih true = ap (λ (l : List _). x ∷ l) ih
    go ih false = ih

-- a list's total is the sum over its indexes
pub total_indexes : (ws : List ℕ) → sumℕ (length ws) (λ i. get_or ws i 0) ≡ totalℕ (λ w. w) ws
unfolding totalℕ sumℕ
total_indexes [] = refl
total_indexes (w ∷ ws) = sumℕ_front (length ws) (λ i. get_or (w ∷ ws) i 0) ∙ ap (λ (z : ℕ). w + z) (total_indexes ws)

pub total_indexesℤ : (zs : List ℤ) → sum (length zs) (λ i. get_or zs i (pos 0)) ≡ total (λ z. z) zs
unfolding total sum
total_indexesℤ [] = refl
total_indexesℤ (z ∷ zs) = sum_front (length zs) (λ i. get_or (z ∷ zs) i (pos 0)) ∙ ap (λ (y : ℤ). z +ℤ y) (total_indexesℤ zs)

-- a list read by its indexes: its total, and how many pass
module _ {A : Type 0} where
  pub indexed_total : (f : ℕ → ℤ) (g : A → ℤ) (xs : List A) → ((j : ℕ) (z : A) → j < length xs → f j ≡ g (get_or xs j z)) → sum (length xs) f ≡ total g xs
  unfolding total sum
  indexed_total f g [] h = refl
  indexed_total f g (x ∷ xs) h =
      sum_front (length xs) f ∙ ap₂ ◌+ℤ◌ (h 0 x (omega arith)) (indexed_total (λ i. f (suc i)) g xs (λ j z l. h (suc j) z (omega arith)))

  pub indexed_count : (p : ℕ → Bool) (q : A → Bool) (xs : List A) → ((j : ℕ) (z : A) → j < length xs → p j ≡ q (get_or xs j z)) →
      count (length xs) p ≡ length (those q xs)
  unfolding those sumℕ
  indexed_count p q [] h = refl
  indexed_count p q (x ∷ xs) h =
      sumℕ_front (length xs) (λ i. one (p i)) ∙ ap₂ (λ (t : Bool) (n : ℕ). one t + n) (h 0 x (omega arith))
      (indexed_count (λ i. p (suc i)) q xs (λ j z l. h (suc j) z (omega arith)))
      ∙ go (q x)
    where
      go : (t : Bool) → one t + length (those q xs) ≡ length (cond t (x ∷ those q xs) (those q xs))
      go true = omega arith
      go false = omega arith

-- numbers that depend on the index alone
pub numbered_sum : {A B : Type 0} (f : B → ℕ) (g : ℕ → A → B) (h : ℕ → ℕ) → ((i : ℕ) (x : A) → f (g i x) ≡ h i) → (xs : List A) →
    totalℕ f (numbered g xs) ≡ sumℕ (length xs) h
unfolding totalℕ numbered sumℕ
numbered_sum f g h e [] = refl
numbered_sum f g h e (x ∷ xs) =
    ap₂ ◌+◌ (e 0 x) (numbered_sum f (λ i. g (suc i)) (λ i. h (suc i)) (λ i y. e (suc i) y) xs) ∙ sym (sumℕ_front (length xs) h)

-- over any list of that length
pub numbered_alike : {A B C D : Type 0} (f : B → D) (g : ℕ → A → B) (h : ℕ → D) → ((i : ℕ) (x : A) → f (g i x) ≡ h i) → (xs : List A) (ys : List C) →
    length xs ≡ length ys → map f (numbered g xs) ≡ numbered (λ i y. h i) ys
unfolding numbered
numbered_alike f g h e [] [] l = refl
numbered_alike f g h e [] (y ∷ ys) l = absurd (omega arith)
numbered_alike f g h e (x ∷ xs) [] l = absurd (omega arith)
numbered_alike {D} f g h e (x ∷ xs) (y ∷ ys) l =
    ap₂ (λ (d : D) (ds : List D). d ∷ ds) (e 0 x) (numbered_alike f (λ i. g (suc i)) (λ i. h (suc i)) (λ i z. e (suc i) z) xs ys (omega arith))

pub numbered_length : {A B : Type 0} (g : ℕ → A → B) (xs : List A) → length (numbered g xs) ≡ length xs
unfolding numbered
numbered_length g [] = refl
numbered_length g (x ∷ xs) = ap suc (numbered_length (λ i. g (suc i)) xs)

-- what stands at an index
pub numbered_at : {A B : Type 0} (g : ℕ → A → B) (xs : List A) (i : ℕ) (a : A) (b : B) → i < length xs → get_or (numbered g xs) i b ≡ g i (get_or xs i a)
unfolding numbered
numbered_at g [] i a b h = absurd (no i h)
  where
    no : (i : ℕ) → i < 0 → ⊥
    no i h = omega arith
numbered_at g (x ∷ xs) zero a b h = refl
numbered_at g (x ∷ xs) (suc i) a b h = numbered_at (λ j. g (suc j)) xs i a b (omega arith)
