-- Laws of the plants of units by their index: each is what it was before its unit, and the unit with it; the plants of the list are those of the units that are
-- the last of their plant; a total over them goes from each plant's value before a unit to its value with it.
use mathlib.Core.Path.{◌≡◌, refl, sym, ◌∙◌, ap, ap₂}
use mathlib.Core.Bool.{Bool, true, false, cond, not, ◌&&◌}
use mathlib.Core.List.{List, ◌∷◌, map}
use Prim.Native.Nat.{ℕ, zero, suc, ◌+◌, ◌≤◌, ◌<◌}
use native.Mathlib.Decide.{dec_lt}
use native.Mathlib.Omega.{arith}
use lib.Dec.{eqb, ltb}
use lib.IntN.{ℤ, pos, ◌+ℤ◌, ◌-ℤ◌}
use borrow.Author.Tests.{lt-ltb, le-ltb, eqb-true}
use Rattle.integers.proofs.Pairs.{ring, v, ◌⊕◌, ◌⊖◌}
use Rattle.integers.specs.Sums.{sum, when, both}
use Rattle.integers.proofs.Sums.{sum_ext, sum_minus, sum_front}
use Rattle.integers.specs.Totals.{total, those}
use Rattle.integers.proofs.Totals.{total_map, total_those}
use Rattle.rules.specs.Bytes.{listed}
use Rattle.rules.specs.Book.{Unit}
use Rattle.rules.specs.Groups.{same_group}
use Rattle.rules.specs.Deviation.{deviation, good}
use Rattle.rules.specs.Plants.{Plant, alone, with_unit, behind, plants_from, plants}
use Rattle.laws.proofs.Limits.{UnitFits, PlantFits}
use Rattle.laws.proofs.PlantsLaws.{alone_fits, with_fits}
use Rattle.interval.specs.Lent.{home, passed_over}
use Rattle.chain.specs.PlantsAt.{joined_at, plant_at, good_before, deviation_before, ends, home_at, OneRegion}
use Rattle.chain.proofs.ChainLaws.{listed_total}

-- two groups are one only where their numbers are equal
pub same_number : (g h : ℕ) → same_group g h ≡ true → g ≡ h
same_number g h e = eqb-true g h (both (not (eqb h 0)) (eqb g h) e).1

module _ (unit : ℕ → Unit) where
  -- ---- one unit more
  pub plant_group : (i : ℕ) → (plant_at unit i).group ≡ (unit i).group
  unfolding plant_at
  plant_group zero = refl
  plant_group (suc i) = go (same_group (plant_at unit i).group (unit (suc i)).group) refl
    where
      go : (t : Bool) → same_group (plant_at unit i).group (unit (suc i)).group ≡ t →
          (cond t (with_unit (plant_at unit i) (unit (suc i))) (alone (unit (suc i)))).group ≡ (unit (suc i)).group
      go true e = same_number _ _ e
      go false e = refl

  -- a plant grows by the unit that joins it, and starts with one that joins none
  pub plant_next : (i : ℕ) → plant_at unit (suc i) ≡ cond (joined_at unit (suc i)) (with_unit (plant_at unit i) (unit (suc i))) (alone (unit (suc i)))
  unfolding plant_at
  plant_next i = rw (plant_group i)

  -- so has each of its numbers
  pub next_has : {A : Type 0} (f : Plant → A) (i : ℕ) →
      f (plant_at unit (suc i)) ≡ cond (joined_at unit (suc i)) (f (with_unit (plant_at unit i) (unit (suc i)))) (f (alone (unit (suc i))))
  next_has {A} f i = ap f (plant_next i) ∙ go (joined_at unit (suc i))
    where
      go : (t : Bool) → f (cond t (with_unit (plant_at unit i) (unit (suc i))) (alone (unit (suc i)))) ≡
          cond t (f (with_unit (plant_at unit i) (unit (suc i)))) (f (alone (unit (suc i))))
      go true = refl
      go false = refl

  pub plant_deviation : (i t : ℕ) → (plant_at unit i).deviation t ≡ deviation_before unit i t +ℤ deviation (unit i) t
  unfolding plant_at
  plant_deviation zero t = ring (v (deviation (unit 0) t)) (v (pos 0) ⊕ v (deviation (unit 0) t)) (omega arith)
  plant_deviation (suc i) t = next_has (λ p. p.deviation t) i ∙ go (joined_at unit (suc i))
    where
      go : (s : Bool) → cond s ((plant_at unit i).deviation t +ℤ deviation (unit (suc i)) t) (deviation (unit (suc i)) t) ≡
          when s ((plant_at unit i).deviation t) +ℤ deviation (unit (suc i)) t
      go true = refl
      go false = ring (v (deviation (unit (suc i)) t)) (v (pos 0) ⊕ v (deviation (unit (suc i)) t)) (omega arith)

  pub plant_good : (i : ℕ) → (plant_at unit i).good ≡ good_before unit i && good (unit i)
  unfolding plant_at
  plant_good zero = refl
  plant_good (suc i) = next_has (λ p. p.good) i ∙ go (joined_at unit (suc i))
    where
      go : (s : Bool) → cond s ((plant_at unit i).good && good (unit (suc i))) (good (unit (suc i))) ≡ cond s (plant_at unit i).good true && good (unit (suc i))
      go true = refl
      go false = refl

  -- a plant is in the region of its units, where units that join one another are in one
  pub plant_region : (m : ℕ) → ((i : ℕ) → i ≤ m → OneRegion unit i) → (plant_at unit m).region ≡ (unit m).region
  unfolding plant_at
  plant_region zero same = refl
  plant_region (suc m) same =
      next_has (λ p. p.region) m ∙ go (plant_region m (λ i h. same i (omega arith))) (joined_at unit (suc m)) (same (suc m) (omega arith))
    where
      go : (plant_at unit m).region ≡ (unit m).region → (s : Bool) → (s ≡ true → (unit m).region ≡ (unit (suc m)).region) →
          cond s (plant_at unit m).region (unit (suc m)).region ≡ (unit (suc m)).region
      go ih true same = ih ∙ same refl
      go ih false same = refl

  -- ---- limits
  pub plant_fits : (m : ℕ) → ((i : ℕ) → i ≤ m → UnitFits (unit i)) → PlantFits (plant_at unit m)
  unfolding plant_at
  plant_fits zero fits = alone_fits (unit 0) (fits 0 (omega arith))
  plant_fits (suc m) fits =
      go (plant_fits m (λ i h. fits i (omega arith))) (fits (suc m) (omega arith)) (same_group (plant_at unit m).group (unit (suc m)).group)
    where
      go : PlantFits (plant_at unit m) → UnitFits (unit (suc m)) → (s : Bool) →
          PlantFits (cond s (with_unit (plant_at unit m) (unit (suc m))) (alone (unit (suc m))))
      go ih fits true = with_fits (plant_at unit m) (unit (suc m)) ih fits
      go ih fits false = alone_fits (unit (suc m)) fits

  pub plant_few : (m : ℕ) → (plant_at unit m).units ≤ suc m
  unfolding plant_at
  plant_few zero = omega arith
  plant_few (suc m) = go (plant_few m) (same_group (plant_at unit m).group (unit (suc m)).group)
    where
      go : (plant_at unit m).units ≤ suc m → (s : Bool) → (cond s (with_unit (plant_at unit m) (unit (suc m))) (alone (unit (suc m)))).units ≤ suc (suc m)
      go ih true = omega arith
      go ih false = omega arith

  -- ---- the plants of the list
  pub ends_last : (i : ℕ) → ends unit (suc i) i ≡ true
  ends_last i = rw (le-ltb (suc i) (suc i) (omega arith))

  pub ends_before : (n i : ℕ) → suc i < n → ends unit n i ≡ not (joined_at unit (suc i))
  ends_before n i h = rw (lt-ltb (suc i) n h)

  from_here : (k i n : ℕ) → n ≡ suc i + k →
      plants_from (plant_at unit i) (listed (suc i) k unit) ≡ map (plant_at unit) (those (ends unit n) (listed i (suc k) (λ j. j)))
  unfolding plants_from listed those plant_at
  from_here zero i n e =
      let one : n ≡ suc i = omega arith in
      let last : ends unit n i ≡ true = ap (λ (m : ℕ). ends unit m i) one ∙ ends_last i in
      rw last
  from_here (suc k) i n e =
      let ih = from_here k (suc i) n (omega arith) in
      let this : ends unit n i ≡ not (joined_at unit (suc i)) = ends_before n i (omega arith) in
      rw (this, plant_group i) (go (joined_at unit (suc i)) _ _ (rw (plant_group i) at ih))
    where
      go : (s : Bool) (ps : List Plant) (is : List ℕ) → ps ≡ map (plant_at unit) is →
          cond s ps (plant_at unit i ∷ ps) ≡ map (plant_at unit) (cond (not s) (i ∷ is) is)
      go true ps is e = e
      go false ps is e = ap (λ (l : List Plant). plant_at unit i ∷ l) e

  -- THE PLANTS OF A ROSTER are those of the units that are the last of theirs
  pub plants_listed : (n : ℕ) → plants (listed 0 n unit) ≡ map (plant_at unit) (those (ends unit n) (listed 0 n (λ j. j)))
  unfolding plants listed those plant_at
  plants_listed zero = refl
  plants_listed (suc k) = from_here k 0 (suc k) (omega arith)

  -- ---- a total over the plants
  pub plants_total : (f : Plant → ℤ) (n : ℕ) → total f (plants (listed 0 n unit)) ≡ sum n (λ i. when (ends unit n i) (f (plant_at unit i)))
  plants_total f n =
      ap (total f) (plants_listed n)
      ∙ total_map f (plant_at unit) (those (ends unit n) (listed 0 n (λ j. j)))
      ∙ total_those (ends unit n) (λ i. f (plant_at unit i)) (listed 0 n (λ j. j))
      ∙ listed_total (λ i. when (ends unit n i) (f (plant_at unit i))) n (λ j. j)

  -- a plant's value before its unit
  abbrev pub value_before : (Plant → ℤ) → ℕ → ℤ
  value_before f zero = pos 0
  value_before f (suc i) = when (joined_at unit (suc i)) (f (plant_at unit i))

  less : (s : Bool) (z : ℤ) → when (not s) z ≡ z -ℤ when s z
  less true z = ring (v (pos 0)) (v z ⊖ v z) (omega arith)
  less false z = ring (v z) (v z ⊖ v (pos 0)) (omega arith)

  moved_each : (f : Plant → ℤ) (n : ℕ) →
      sum n (λ i. when (ends unit n i) (f (plant_at unit i))) ≡ sum n (λ i. f (plant_at unit i) -ℤ value_before f i)
  unfolding sum
  moved_each f zero = refl
  moved_each f (suc n) =
      let x : ℕ → ℤ = λ i. f (plant_at unit i) in
      ap₂ ◌+ℤ◌ (sum_ext n _ _ (λ i h. ap (λ (s : Bool). when s (x i)) (ends_before (suc n) i (omega arith)) ∙ less (joined_at unit (suc i)) (x i))
      ∙ sum_minus n x (λ i. value_before f (suc i))) (ap (λ (s : Bool). when s (x n)) (ends_last n))
      ∙ ring (v (sum n x) ⊖ v (sum n (λ i. value_before f (suc i))) ⊕ v (x n))
      (v (sum n x) ⊕ v (x n) ⊖ (v (pos 0) ⊕ v (sum n (λ i. value_before f (suc i))))) (omega arith)
      ∙ sym (sum_minus (suc n) x (value_before f) ∙ ap (λ (z : ℤ). sum (suc n) x -ℤ z) (sum_front n (value_before f)))

  pub plants_moved : (f : Plant → ℤ) (n : ℕ) → total f (plants (listed 0 n unit)) ≡ sum n (λ i. f (plant_at unit i) -ℤ value_before f i)
  plants_moved f n = plants_total f n ∙ moved_each f n

-- ---- plants go by the units up to theirs alone
module _ (f g : ℕ → Unit) where
  pub plants_same : (m : ℕ) → ((i : ℕ) → i ≤ m → f i ≡ g i) → plant_at f m ≡ plant_at g m
  unfolding plant_at
  plants_same zero e = ap alone (e 0 (omega arith))
  plants_same (suc m) e = ap₂ behind (plants_same m (λ i h. e i (omega arith))) (e (suc m) (omega arith))

  pub homes_same : (n j : ℕ) → j < n → ((i : ℕ) → i < n → f i ≡ g i) → home_at f n j ≡ home_at g n j
  homes_same n j h e = go (dec_lt (suc j) n)
    where
      same : (s : Bool) → cond s (home (f j).region (plant_at f j).good) passed_over ≡ cond s (home (g j).region (plant_at g j).good) passed_over
      same s =
          ap₂ (λ (u : Unit) (p : Plant). cond s (home u.region p.good) passed_over) (e j h) (plants_same j (λ i k. e i (omega arith)))

      go : Dec (suc j < n) → home_at f n j ≡ home_at g n j
      go (yes k) =
          ap (λ (s : Bool). cond (not (ltb (suc j) n && s)) (home (f j).region (plant_at f j).good) passed_over)
          (ap₂ (λ (u w : Unit). same_group u.group w.group) (e j h) (e (suc j) k))
          ∙ same (ends g n j)
      go (no k) = rw (le-ltb (suc j) n (omega arith)) (same true)
