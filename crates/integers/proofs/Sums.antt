-- Laws of the definitions in specs/Sums.antt.
use mathlib.Core.Path.{◌≡◌, refl, sym, ◌∙◌, ap, ap₂, subst}
use mathlib.Core.Bool.{Bool, true, false, cond, ◌&&◌, false≢true}
use Prim.Native.Nat.{ℕ, zero, suc, ◌+◌, ◌*◌, ◌≤◌, ◌<◌, max}
use native.Mathlib.Numerals.{add-one}
use native.Mathlib.Nat.{add-mul, mul-add}
use native.Mathlib.Omega.{arith}
use lib.Dec.{eqb, leb, ltb}
use lib.IntN.{ℤ, pos, neg_ℤ, nat_abs, ◌+ℤ◌, ◌-ℤ◌, ◌*ℤ◌, +ℤ_idl, +ℤ_idr, +ℤ_assoc, *ℤ-zero, neg_ℤ-+ℤ}
use borrow.Author.Tests.{ltb-true, ltb-false, lt-ltb, le-ltb, leb-true, leb-false, eqb-true, eqb-false, ne_eqb}
use Rattle.integers.specs.Pairs.{gain, loss}
use Rattle.integers.proofs.Pairs.{add_is}
use Rattle.integers.proofs.Order.{*ℤ-+ℤ, +ℤ-cross}
use Rattle.integers.specs.Bounds.{Within}
use Rattle.integers.proofs.Bounds.{within_natural, within_sum, within_wider, abs_add}
use Rattle.integers.specs.Sums.{both, count, every, first_wrong, largest, one, sum, sumℕ, when}

-- ---- one turn of a loop: the code's n + 1 is the definitions' suc n
pub sum_step : (n : ℕ) (f : ℕ → ℤ) → sum (n + 1) f ≡ sum n f +ℤ f n
unfolding sum
sum_step n f = rw (add-one n)

pub sum_none : (f : ℕ → ℤ) → sum 0 f ≡ pos 0
unfolding sum
sum_none f = refl

pub sumℕ_step : (n : ℕ) (f : ℕ → ℕ) → sumℕ (n + 1) f ≡ sumℕ n f + f n
unfolding sumℕ
sumℕ_step n f = rw (add-one n)

pub sumℕ_none : (f : ℕ → ℕ) → sumℕ 0 f ≡ 0
unfolding sumℕ
sumℕ_none f = refl

pub every_step : (n : ℕ) (p : ℕ → Bool) → every n p ≡ true → p n ≡ true → every (n + 1) p ≡ true
unfolding every
every_step n p h e = rw (add-one n) (rw (h, e))

pub every_more : (n : ℕ) (p : ℕ → Bool) → every (n + 1) p ≡ every n p && p n
unfolding every
every_more n p = rw (add-one n)

pub every_none : (p : ℕ → Bool) → every 0 p ≡ true
unfolding every
every_none p = refl

pub largest_step : (n : ℕ) (f : ℕ → ℕ) → largest (n + 1) f ≡ max (largest n f) (f n)
unfolding largest
largest_step n f = rw (add-one n)

pub largest_none : (f : ℕ → ℕ) → largest 0 f ≡ 0
unfolding largest
largest_none f = refl

-- two tests change places
pub when_swap : (s t : Bool) (x : ℤ) → when s (when t x) ≡ when t (when s x)
when_swap true true x = refl
when_swap true false x = refl
when_swap false true x = refl
when_swap false false x = refl

-- what is counted at one number alone is counted there
pub when_there : (f : ℕ → ℤ) (m n : ℕ) → when (eqb m n) (f n) ≡ when (eqb m n) (f m)
when_there f m n = go (eqb m n) refl
  where
    go : (t : Bool) → eqb m n ≡ t → when t (f n) ≡ when t (f m)
    go true e = let q : m ≡ n = eqb-true m n e in ap f (sym q)
    go false e = refl

-- no index is below zero
pub none_below : {A : Type 0} (i : ℕ) → i < 0 → A
none_below i h = absurd (no i h)
  where
    no : (i : ℕ) → i < 0 → ⊥
    no i h = omega arith

pub every_at : (n : ℕ) (p : ℕ → Bool) → every n p ≡ true → (i : ℕ) → i < n → p i ≡ true
unfolding every
every_at zero p e i h = none_below i h
every_at (suc n) p e i h = go (λ l. every_at n p (both (every n p) (p n) e).0 i l) (ltb i n) refl
  where
    go : (i < n → p i ≡ true) → (t : Bool) → ltb i n ≡ t → p i ≡ true
    go ih true c = ih (ltb-true i n c)
    go ih false c = let q : i ≡ n = omega (arith, ltb-false i n c) in ap p q ∙ (both (every n p) (p n) e).1

pub every_all : (n : ℕ) (p : ℕ → Bool) → ((i : ℕ) → i < n → p i ≡ true) → every n p ≡ true
unfolding every
every_all zero p h = refl
every_all (suc n) p h = rw (every_all n p (λ i l. h i (omega arith)), h n (omega arith))

pub every_fails : (n : ℕ) (p : ℕ → Bool) (i : ℕ) → i < n → p i ≡ false → every n p ≡ false
every_fails n p i h e = go (every n p) refl
  where
    go : (t : Bool) → every n p ≡ t → t ≡ false
    go true c = sym (every_at n p c i h) ∙ e
    go false c = refl

pub every_ext : (n : ℕ) (p q : ℕ → Bool) → ((i : ℕ) → i < n → p i ≡ q i) → every n p ≡ every n q
unfolding every
every_ext zero p q e = refl
every_ext (suc n) p q e = ap₂ ◌&&◌ (every_ext n p q (λ i h. e i (omega arith))) (e n (omega arith))

pub largest_ext : (n : ℕ) (f g : ℕ → ℕ) → ((i : ℕ) → i < n → f i ≡ g i) → largest n f ≡ largest n g
unfolding largest
largest_ext zero f g e = refl
largest_ext (suc n) f g e = ap₂ max (largest_ext n f g (λ i h. e i (omega arith))) (e n (omega arith))

pub largest_≤ : (n k : ℕ) (f : ℕ → ℕ) → ((i : ℕ) → i < n → f i ≤ k) → largest n f ≤ k
unfolding largest
largest_≤ zero k f h = omega arith
largest_≤ (suc n) k f h = omega (arith, largest_≤ n k f (λ i l. h i (omega arith)), h n (omega arith))

-- a term is no more than the largest
pub largest_term : (n : ℕ) (f : ℕ → ℕ) (i : ℕ) → i < n → f i ≤ largest n f
unfolding largest
largest_term zero f i h = none_below i h
largest_term (suc n) f i h = go (λ l. largest_term n f i l) (ltb i n) refl
  where
    go : (i < n → f i ≤ largest n f) → (t : Bool) → ltb i n ≡ t → f i ≤ max (largest n f) (f n)
    go ih true c = omega (arith, ih (ltb-true i n c))
    go ih false c = let q : i ≡ n = omega (arith, ltb-false i n c) in omega (arith, ap f q)

-- ---- sums of integers
pub sum_ext : (n : ℕ) (f g : ℕ → ℤ) → ((i : ℕ) → i < n → f i ≡ g i) → sum n f ≡ sum n g
unfolding sum
sum_ext zero f g e = refl
sum_ext (suc n) f g e = ap₂ ◌+ℤ◌ (sum_ext n f g (λ i h. e i (omega arith))) (e n (omega arith))

pub sum_zero : (n : ℕ) → sum n (λ i. pos 0) ≡ pos 0
unfolding sum
sum_zero zero = refl
sum_zero (suc n) = rw (sum_zero n)

pub sum_plus : (n : ℕ) (f g : ℕ → ℤ) → sum n (λ i. f i +ℤ g i) ≡ sum n f +ℤ sum n g
unfolding sum
sum_plus zero f g = refl
sum_plus (suc n) f g = rw (sum_plus n f g) (+ℤ-cross (sum n f) (sum n g) (f n) (g n))

pub sum_negation : (n : ℕ) (f : ℕ → ℤ) → sum n (λ i. neg_ℤ (f i)) ≡ neg_ℤ (sum n f)
unfolding sum
sum_negation zero f = refl
sum_negation (suc n) f = rw (sum_negation n f) (sym (neg_ℤ-+ℤ (sum n f) (f n)))

pub sum_minus : (n : ℕ) (f g : ℕ → ℤ) → sum n (λ i. f i -ℤ g i) ≡ sum n f -ℤ sum n g
sum_minus n f g = sum_plus n f (λ i. neg_ℤ (g i)) ∙ ap (λ (z : ℤ). sum n f +ℤ z) (sum_negation n g)

pub sum_scale : (n : ℕ) (k : ℤ) (f : ℕ → ℤ) → sum n (λ i. k *ℤ f i) ≡ k *ℤ sum n f
unfolding sum
sum_scale zero k f = sym (*ℤ-zero k)
sum_scale (suc n) k f = rw (sum_scale n k f) (sym (*ℤ-+ℤ k (sum n f) (f n)))

-- two sums change places
pub sum_swap : (n m : ℕ) (f : ℕ → ℕ → ℤ) → sum n (λ i. sum m (λ j. f i j)) ≡ sum m (λ j. sum n (λ i. f i j))
unfolding sum
sum_swap zero m f = sym (sum_zero m)
sum_swap (suc n) m f = rw (sum_swap n m f) (sym (sum_plus m (λ j. sum n (λ i. f i j)) (λ j. f n j)))

pub sum_naturals : (n : ℕ) (f : ℕ → ℕ) → sum n (λ i. pos (f i)) ≡ pos (sumℕ n f)
unfolding sum sumℕ
sum_naturals zero f = refl
sum_naturals (suc n) f = rw (sum_naturals n f)

pub sum_within : (k n : ℕ) (f : ℕ → ℤ) → ((i : ℕ) → i < n → Within k (f i)) → Within (n * k) (sum n f)
unfolding sum
sum_within k zero f h = within_natural (omega arith)
sum_within k (suc n) f h = within_wider (omega arith) (within_sum (sum_within k n f (λ i l. h i (omega arith))) (h n (omega arith)))

-- a sum is no larger than the sizes of its terms together
pub sum_size : (n : ℕ) (f : ℕ → ℤ) (g : ℕ → ℕ) → ((i : ℕ) → i < n → nat_abs (f i) ≤ g i) → nat_abs (sum n f) ≤ sumℕ n g
unfolding sum sumℕ
sum_size zero f g h = omega arith
sum_size (suc n) f g h = omega (arith, abs_add (sum n f) (f n), sum_size n f g (λ i l. h i (omega arith)), h n (omega arith))

-- what stands above zero, less what stands below, is the sum
pub sum_parts : (n : ℕ) (f : ℕ → ℤ) → gain (sum n f) + sumℕ n (λ i. loss (f i)) ≡ sumℕ n (λ i. gain (f i)) + loss (sum n f)
unfolding sum sumℕ
sum_parts zero f = refl
sum_parts (suc n) f = omega (arith, sum_parts n f, add_is (sum n f) (f n))

-- where one index alone counts, the sum is its term
pub sum_pick : (n k : ℕ) (f : ℕ → ℤ) → k < n → sum n (λ i. when (eqb i k) (f i)) ≡ f k
unfolding sum
sum_pick zero k f h = none_below k h
sum_pick (suc n) k f h = go (λ l. sum_pick n k f l) (eqb n k) refl
  where
    none : (m : ℕ) → m ≤ k → sum m (λ i. when (eqb i k) (f i)) ≡ pos 0
    none m l = sum_ext m _ _ (λ i q. rw (ne_eqb i k (λ e. omega arith))) ∙ sum_zero m

    other : (n k : ℕ) → k < suc n → eqb n k ≡ false → k < n
    other n k h e = omega (arith, eqb-false n k e)

    go : (k < n → sum n (λ i. when (eqb i k) (f i)) ≡ f k) → (t : Bool) → eqb n k ≡ t → sum n (λ i. when (eqb i k) (f i)) +ℤ when t (f n) ≡ f k
    go ih true e = let q : n ≡ k = eqb-true n k e in rw (none n (omega arith)) (+ℤ_idl (f n) ∙ ap f q)
    go ih false e = +ℤ_idr _ ∙ ih (other n k h e)

-- the first term apart
pub sum_front : (n : ℕ) (f : ℕ → ℤ) → sum (suc n) f ≡ f 0 +ℤ sum n (λ i. f (suc i))
unfolding sum
sum_front zero f = +ℤ_idl (f 0) ∙ sym (+ℤ_idr (f 0))
sum_front (suc n) f = ap (λ (z : ℤ). z +ℤ f (suc n)) (sum_front n f) ∙ +ℤ_assoc (f 0) (sum n (λ i. f (suc i))) (f (suc n))

-- ---- sums of naturals
pub sumℕ_ext : (n : ℕ) (f g : ℕ → ℕ) → ((i : ℕ) → i < n → f i ≡ g i) → sumℕ n f ≡ sumℕ n g
unfolding sumℕ
sumℕ_ext zero f g e = refl
sumℕ_ext (suc n) f g e = ap₂ ◌+◌ (sumℕ_ext n f g (λ i h. e i (omega arith))) (e n (omega arith))

pub sumℕ_zero : (n : ℕ) → sumℕ n (λ i. 0) ≡ 0
unfolding sumℕ
sumℕ_zero zero = refl
sumℕ_zero (suc n) = omega (arith, sumℕ_zero n)

pub sumℕ_plus : (n : ℕ) (f g : ℕ → ℕ) → sumℕ n (λ i. f i + g i) ≡ sumℕ n f + sumℕ n g
unfolding sumℕ
sumℕ_plus zero f g = refl
sumℕ_plus (suc n) f g = omega (arith, sumℕ_plus n f g)

pub sumℕ_times : (n k : ℕ) (f : ℕ → ℕ) → sumℕ n (λ i. f i * k) ≡ sumℕ n f * k
unfolding sumℕ
sumℕ_times zero k f = omega arith
sumℕ_times (suc n) k f = rw (sumℕ_times n k f) (sym (add-mul (sumℕ n f) (f n) k))

pub sumℕ_scale : (n k : ℕ) (f : ℕ → ℕ) → sumℕ n (λ i. k * f i) ≡ k * sumℕ n f
unfolding sumℕ
sumℕ_scale zero k f = omega arith
sumℕ_scale (suc n) k f = rw (sumℕ_scale n k f) (sym (mul-add k (sumℕ n f) (f n)))

pub sumℕ_≤ : (n : ℕ) (f g : ℕ → ℕ) → ((i : ℕ) → i < n → f i ≤ g i) → sumℕ n f ≤ sumℕ n g
unfolding sumℕ
sumℕ_≤ zero f g e = omega arith
sumℕ_≤ (suc n) f g e = omega (arith, sumℕ_≤ n f g (λ i h. e i (omega arith)), e n (omega arith))

-- less at one index is less in all
pub sumℕ_< : (n : ℕ) (f g : ℕ → ℕ) → ((i : ℕ) → i < n → f i ≤ g i) → (k : ℕ) → k < n → f k < g k → sumℕ n f < sumℕ n g
unfolding sumℕ
sumℕ_< zero f g e k h l = none_below k h
sumℕ_< (suc n) f g e k h l = go (λ q. sumℕ_< n f g e' k q l) (ltb k n) refl
  where
    e' : (i : ℕ) → i < n → f i ≤ g i
    e' i h = e i (omega arith)

    go : (k < n → sumℕ n f < sumℕ n g) → (t : Bool) → ltb k n ≡ t → sumℕ n f + f n < sumℕ n g + g n
    go ih true c = omega (arith, ih (ltb-true k n c), e n (omega arith))
    go ih false c =
        let q : k ≡ n = omega (arith, ltb-false k n c) in
        omega (arith, sumℕ_≤ n f g e', subst (λ (m : ℕ). f m < g m) q l)

-- the first term apart
pub sumℕ_front : (n : ℕ) (f : ℕ → ℕ) → sumℕ (suc n) f ≡ f 0 + sumℕ n (λ i. f (suc i))
unfolding sumℕ
sumℕ_front zero f = omega arith
sumℕ_front (suc n) f = omega (arith, sumℕ_front n f)

-- a term is no more than the sum
pub sumℕ_term : (n : ℕ) (f : ℕ → ℕ) (i : ℕ) → i < n → f i ≤ sumℕ n f
unfolding sumℕ
sumℕ_term zero f i h = none_below i h
sumℕ_term (suc n) f i h = go (λ l. sumℕ_term n f i l) (ltb i n) refl
  where
    go : (i < n → f i ≤ sumℕ n f) → (t : Bool) → ltb i n ≡ t → f i ≤ sumℕ n f + f n
    go ih true c = omega (arith, ih (ltb-true i n c))
    go ih false c = let q : i ≡ n = omega (arith, ltb-false i n c) in omega (arith, ap f q)

-- and so is the sum of the first terms
pub sumℕ_prefix : (i n : ℕ) (f : ℕ → ℕ) → i ≤ n → sumℕ i f ≤ sumℕ n f
unfolding sumℕ
sumℕ_prefix i zero f h = let e : i ≡ 0 = omega arith in rw e (omega arith)
sumℕ_prefix i (suc n) f h = go (λ l. sumℕ_prefix i n f l) (ltb n i) refl
  where
    go : (i ≤ n → sumℕ i f ≤ sumℕ n f) → (t : Bool) → ltb n i ≡ t → sumℕ i f ≤ sumℕ n f + f n
    go ih true c = let e : i ≡ suc n = omega (arith, ltb-true n i c) in rw e (omega arith)
    go ih false c = omega (arith, ih (ltb-false n i c))

-- two terms of a sum
pub sumℕ_two : (n : ℕ) (f : ℕ → ℕ) (i j : ℕ) → i < j → j < n → f i + f j ≤ sumℕ n f
sumℕ_two n f i j h k = omega (arith, sumℕ_prefix (j + 1) n f (omega arith), sumℕ_step j f, sumℕ_term j f i h)

-- a sum above zero has a term above zero
pub some_term : (n : ℕ) (f : ℕ → ℕ) → 0 < sumℕ n f → (i : ℕ) × (i < n) × (0 < f i)
unfolding sumℕ
some_term zero f h = absurd (omega arith)
some_term (suc n) f h = go (λ l. some_term n f l) (ltb 0 (f n)) refl
  where
    go : (0 < sumℕ n f → (i : ℕ) × (i < n) × (0 < f i)) → (t : Bool) → ltb 0 (f n) ≡ t → (i : ℕ) × (i < suc n) × (0 < f i)
    go ih true e = (n, omega arith, ltb-true 0 (f n) e)
    go ih false e =
        let k = ih (omega (arith, ltb-false 0 (f n) e)) in
        (k.0, omega (arith, k.1), k.2)

-- ---- counts
pub one_≤ : (t : Bool) → one t ≤ 1
one_≤ true = omega arith
one_≤ false = omega arith

pub one_mono : (s t : Bool) → (s ≡ true → t ≡ true) → one s ≤ one t
one_mono true t f = rw (f refl) (omega arith)
one_mono false t f = omega arith

pub count_≤ : (n : ℕ) (p : ℕ → Bool) → count n p ≤ n
unfolding sumℕ
count_≤ zero p = omega arith
count_≤ (suc n) p = omega (arith, count_≤ n p, one_≤ (p n))

-- one index alone counts at most once
pub count_one : (n k : ℕ) → count n (λ i. eqb i k) ≤ 1
unfolding sumℕ
count_one zero k = omega arith
count_one (suc n) k = go (count_one n k) (eqb n k) refl
  where
    none : (m : ℕ) → m ≤ k → count m (λ i. eqb i k) ≡ 0
    none zero l = refl
    none (suc m) l = omega (arith, none m (omega arith), ap one (ne_eqb m k (λ e. omega arith)))

    go : count n (λ i. eqb i k) ≤ 1 → (t : Bool) → eqb n k ≡ t → count n (λ i. eqb i k) + one t ≤ 1
    go ih true e = omega (arith, none n (omega (arith, eqb-true n k e)))
    go ih false e = omega arith

-- the count of the first i is one of more indexes, by their order
pub count_below : (n i : ℕ) (p : ℕ → Bool) → i ≤ n → count n (λ j. p j && ltb j i) ≡ count i p
unfolding sumℕ
count_below n i p h = go n h
  where
    same : count i (λ j. p j && ltb j i) ≡ count i p
    same = sumℕ_ext i _ _ (λ j l. rw (lt-ltb j i l) (ap one (and_true (p j))))
      where
        and_true : (t : Bool) → t && true ≡ t
        and_true true = refl
        and_true false = refl

    and_false : (t : Bool) → one (t && false) ≡ 0
    and_false true = refl
    and_false false = refl

    go : (n : ℕ) → i ≤ n → count n (λ j. p j && ltb j i) ≡ count i p
    go zero h = let e : i ≡ 0 = omega arith in ap (λ (m : ℕ). count m (λ j. p j && ltb j i)) (sym e) ∙ same
    go (suc n) h = by (λ l. go n l) (leb i n) refl
      where
        by : (i ≤ n → count n (λ j. p j && ltb j i) ≡ count i p) → (t : Bool) → leb i n ≡ t → count n (λ j. p j && ltb j i) + one (p n && ltb n i) ≡ count i p
        by ih true e =
            let l : i ≤ n = leb-true i n e in
            rw (le-ltb n i l) (omega (arith, ih l, and_false (p n)))
        by ih false e = let q : suc n ≡ i = omega (arith, leb-false i n e) in ap (λ (m : ℕ). count m (λ j. p j && ltb j i)) q ∙ same

-- ---- the first at which a test fails
module _ (fine : ℕ → Bool) where
  pub none_wrong : (n : ℕ) → every n fine ≡ true → first_wrong fine n ≡ 0
  unfolding first_wrong every
  none_wrong zero e = refl
  none_wrong (suc n) e = let b = both (every n fine) (fine n) e in rw (b.0, b.1)

  pub first_wrong_is : (n i : ℕ) → i < n → every i fine ≡ true → fine i ≡ false → first_wrong fine n ≡ suc i
  unfolding first_wrong
  first_wrong_is zero i h e f = absurd (omega arith)
  first_wrong_is (suc n) i h e f = go (λ l. first_wrong_is n i l e f) (eqb i n) refl
    where
      go : (i < n → first_wrong fine n ≡ suc i) → (t : Bool) → eqb i n ≡ t → cond (every n fine) (cond (fine n) 0 (suc n)) (first_wrong fine n) ≡ suc i
      go ih true g = let z = eqb-true i n g in rw (← z, e, f)
      go ih false g =
          let l : i < n = less i n h (eqb-false i n g) in
          rw (every_fails n fine i l f) (ih l)
        where
          less : (i n : ℕ) → i < suc n → (i ≡ n → ⊥) → i < n
          less i n h d = omega arith

  -- it is one of them, and is wrong while all before it are right
  pub record FirstWrong (n k : ℕ) : Type 0 where
    pub member : ℕ
    pub from_one : k ≡ suc member
    pub among : member < n
    pub before : every member fine ≡ true
    pub wrong : fine member ≡ false

  pub first_wrong_means : (n : ℕ) → every n fine ≡ false → FirstWrong n (first_wrong fine n)
  unfolding first_wrong every
  first_wrong_means zero e = absurd (false≢true (sym e))
  first_wrong_means (suc n) e = go (first_wrong_means n) (every n fine) refl e
    where
      go : (every n fine ≡ false → FirstWrong n (first_wrong fine n)) →
          (t : Bool) → every n fine ≡ t → t && fine n ≡ false → FirstWrong (suc n) (cond t (cond (fine n) 0 (suc n)) (first_wrong fine n))
      go ih true g w = record { member = n; from_one = rw w; among = omega arith; before = g; wrong = w }
      go ih false g w =
          let m = ih g in
          record { member = m.member; from_one = m.from_one; among = omega (arith, m.among); before = m.before; wrong = m.wrong }

-- there is none exactly where the test holds at all
pub first_wrong_tells : (n : ℕ) (p : ℕ → Bool) → every n p ≡ eqb (first_wrong p n) 0
first_wrong_tells n p = go (every n p) refl
  where
    go : (t : Bool) → every n p ≡ t → t ≡ eqb (first_wrong p n) 0
    go true e = rw (none_wrong p n e)
    go false e = sym (ne_eqb (first_wrong p n) 0 (λ z. omega (arith, (first_wrong_means p n e).from_one)))

pub first_wrong_ext : (n : ℕ) (p q : ℕ → Bool) → ((i : ℕ) → i < n → p i ≡ q i) → first_wrong p n ≡ first_wrong q n
unfolding first_wrong
first_wrong_ext zero p q e = refl
first_wrong_ext (suc n) p q e =
    rw (every_ext n p q (λ i h. e i (omega arith)), e n (omega arith), first_wrong_ext n p q (λ i h. e i (omega arith)))
