-- THE ANSWER: what was kept of a book gives the rules' answer, for every requirement. Rows that are not passed over are plants by the index of their last unit,
-- so a sum or a count over rows is one over the plants; the sums of the regions are those over the requirement's plants, since each plant is in one region;
-- RCR's point is the larger of two sums.
use mathlib.Core.Path.{◌≡◌, refl, sym, ◌∙◌, ap, ap₂}
use mathlib.Core.Bool.{Bool, true, false, cond, not, ◌&&◌, ◌||◌}
use mathlib.Core.List.{List, [], ◌∷◌, ◌++◌, map}
use Prim.Native.Nat.{ℕ, zero, suc, ◌+◌, ◌*◌, ◌/◌, ◌%◌, ◌^◌, ◌≤◌, ◌<◌, max}
use native.Mathlib.Nat.{zero-add}
use native.Mathlib.Omega.{arith}
use lib.Dec.{eqb, leb}
use lib.IntN.{ℤ, pos, negsuc, neg_ℤ, ◌*ℤ◌}
use lib.ListN.{length, get_or, length-append}
use borrow.Author.Tests.{ne_eqb}
use lib.Signed.{lt_z}
use Rattle.integers.specs.Pairs.{gain, loss}
use Rattle.integers.proofs.Pairs.{gain_negation, loss_negation}
use Rattle.integers.specs.Sums.{sum, sumℕ, count, when, one, both}
use Rattle.integers.proofs.Sums.{when_there, sum_ext, sumℕ_ext, every_ext, largest_ext}
use Rattle.integers.specs.Totals.{total, totalℕ, those, All}
use Rattle.integers.proofs.Totals.{
  total_same,
  total_those,
  total_negation,
  total_classes,
  totalℕ_same,
  total_naturals,
  those_those,
  those_++,
  all_at,
}
use Rattle.rules.specs.declared.Direction.{Direction}
use Rattle.rules.specs.declared.Direction.TheVariants.{Raise, Lower}
use Rattle.rules.specs.declared.Reason.TheVariants.{BadUnit, NoGoodUnit}
use Rattle.rules.specs.declared.Standing.{Standing}
use Rattle.integers.specs.Bounds.{Within}
use Rattle.rules.specs.Quantities.{points, regions, measure_limit}
use Rattle.rules.specs.Bytes.{listed}
use Rattle.rules.specs.Book.{by, toward, Settings, Defaults, Unit, Requirement, covers, Book, regionOf}
use Rattle.rules.specs.Measure.{measure_in}
use Rattle.rules.specs.Reliability.{reliable, reliable_in}
use Rattle.rules.specs.UnitRecord.{unit_in}
use Rattle.rules.specs.Groups.{same_group}
use Rattle.rules.specs.Plants.{Plant, alone, with_unit, plants_from, plants, good_plants}
use Rattle.rules.specs.Performance.{weight_in, wanted, performance, plants_of, plant_performance, residual_performance}
use Rattle.laws.proofs.PerformanceLaws.{residual_is}
use Rattle.rules.specs.Standings.{standing, plant_standing, some_good_or_none, live_or}
use Rattle.rules.specs.Members.{Name, unit, Member, plant_member, over_regions, each_region, residual_or, residual_member, plants_among, members}
use Rattle.rules.specs.Rcr.{weighed_measure, response, all_reliable, few_bad, rcr}
use Rattle.laws.proofs.RcrLaws.{response_is}
use Rattle.rules.specs.Answer.{answered, answer}
use Rattle.interval.specs.declared.Tally.{Tally}
use Rattle.interval.specs.Lent.{Lent, measure_held, home, passed_over, row_each, in_row, row_of}
use Rattle.interval.proofs.HeldLaws.{measure_read}
use Rattle.chain.proofs.ChainLaws.{listed_shift, listed_more, home_region, home_good}
use Rattle.chain.specs.PlantsAt.{plant_at, ends}
use Rattle.chain.proofs.PlantsAt.{plants_listed, plants_total}
use Rattle.kept.specs.Kept.{
  reliable_of,
  residual_default,
  region_of,
  good_of,
  performance_of,
  unit_default,
  row_standing,
  row_member,
  some_good_or_none_of,
  residual_of,
  residual_value,
  residual_row,
  rows_of,
  kept_members,
  kept_weighed,
  kept_sum,
  kept_response,
  kept_reliable,
  kept_few_bad,
  kept_rcr,
  kept_answer,
}
use Rattle.chain.specs.Keeps.{Keeps, roster_unit}

-- ---- the images of those indexes that pass are the same where the tests and the images are
pub those_same : {B : Type 0} (p q : ℕ → Bool) (f g : ℕ → B) (k n : ℕ) → ((i : ℕ) → i < k + n → p i ≡ q i) → ((i : ℕ) → i < k + n → q i ≡ true → f i ≡ g i) →
    map f (those p (listed k n (λ j. j))) ≡ map g (those q (listed k n (λ j. j)))
unfolding those listed
those_same p q f g k zero hp hf = refl
those_same {B} p q f g k (suc n) hp hf =
    rw (hp k (omega arith)) (go (those_same p q f g (suc k) n (λ i h. hp i (omega arith)) (λ i h. hf i (omega arith))) (q k) refl)
  where
    go : map f (those p (listed (suc k) n (λ j. j))) ≡ map g (those q (listed (suc k) n (λ j. j))) → (s : Bool) → q k ≡ s →
        map f (cond s (k ∷ those p (listed (suc k) n (λ j. j))) (those p (listed (suc k) n (λ j. j)))) ≡
        map g (cond s (k ∷ those q (listed (suc k) n (λ j. j))) (those q (listed (suc k) n (λ j. j))))
    go ih true e = ap₂ (λ (y : B) (ys : List B). y ∷ ys) (hf k (omega arith) e) ih
    go ih false e = ih

-- as many indexes pass as are counted
those_count : (p : ℕ → Bool) (n : ℕ) → length (those p (listed 0 n (λ j. j))) ≡ count n p
unfolding sumℕ those listed
those_count p zero = refl
those_count p (suc n) =
    ap (λ (is : List ℕ). length (those p is)) (listed_more 0 n (λ j. j)) ∙ ap length (those_++ p (listed 0 n (λ j. j)) ((0 + n) ∷ []))
    ∙ length-append (those p (listed 0 n (λ j. j))) _ ∙ ap₂ ◌+◌ (those_count p n) (last (0 + n) n (zero-add n))
  where
    one_more : (s : Bool) (k : ℕ) → length (cond s (k ∷ []) []) ≡ one s
    one_more true k = refl
    one_more false k = refl

    last : (k n : ℕ) → k ≡ n → length (cond (p k) (k ∷ []) []) ≡ one (p n)
    last k n e = one_more (p k) k ∙ ap (λ (i : ℕ). one (p i)) e

-- those of an image are the image of those
those_map : {A B : Type 0} (p : B → Bool) (f : A → B) (xs : List A) → those p (map f xs) ≡ map f (those (λ x. p (f x)) xs)
unfolding those
those_map p f [] = refl
those_map {A} {B} p f (x ∷ xs) = go (those_map p f xs) (p (f x))
  where
    go : those p (map f xs) ≡ map f (those (λ x. p (f x)) xs) → (s : Bool) →
        cond s (f x ∷ those p (map f xs)) (those p (map f xs)) ≡ map f (cond s (x ∷ those (λ x. p (f x)) xs) (those (λ x. p (f x)) xs))
    go ih true = ap (λ (ys : List B). f x ∷ ys) ih
    go ih false = ih

map_map : {A B C : Type 0} (g : B → C) (f : A → B) (xs : List A) → map g (map f xs) ≡ map (λ x. g (f x)) xs
map_map g f [] = refl
map_map {A} {B} {C} g f (x ∷ xs) = ap (λ (ys : List C). g (f x) ∷ ys) (map_map g f xs)

length_map : {A B : Type 0} (f : A → B) (xs : List A) → length (map f xs) ≡ length xs
length_map f [] = refl
length_map f (x ∷ xs) = ap suc (length_map f xs)

-- a list by its indexes
listed_back : {A : Type 0} (xs : List A) (z : A) → listed 0 (length xs) (λ j. get_or xs j z) ≡ xs
unfolding listed
listed_back [] z = refl
listed_back {A} (x ∷ xs) z = ap (λ (l : List A). x ∷ l) (listed_shift 0 (length xs) (λ j. get_or (x ∷ xs) j z) ∙ listed_back xs z)

-- plants are in the regions of their units
inside_from : (p : Plant) (us : List Unit) → p.region < regions → All (λ u. u.region < regions) us → All (λ p. p.region < regions) (plants_from p us)
unfolding plants_from All
inside_from p [] h a = (h, tt)
inside_from p (u ∷ us) h a = go (λ q i. inside_from q us i a.1) (same_group p.group u.group)
  where
    go : ((q : Plant) → q.region < regions → All (λ p. p.region < regions) (plants_from q us)) → (s : Bool) →
        All (λ p. p.region < regions) (cond s (plants_from (cond s (with_unit p u) (alone u)) us) (p ∷ plants_from (cond s (with_unit p u) (alone u)) us))
    go ih true = ih (with_unit p u) h
    go ih false = (h, ih (alone u) a.0)

plants_inside : (us : List Unit) → All (λ u. u.region < regions) us → All (λ p. p.region < regions) (plants us)
unfolding plants All
plants_inside [] a = tt
plants_inside (u ∷ us) a = inside_from (alone u) us a.0 a.1

figure_reliable : (t : Bool) → lt_z (pos 0) (pos (one t)) ≡ t
figure_reliable true = refl
figure_reliable false = refl

-- ---- equal parts make equal members
live_or_same : {s s' : Standing} {x x' y y' : ℤ} → s ≡ s' → x ≡ x' → y ≡ y' → live_or s x y ≡ live_or s' x' y'
live_or_same {s} {s'} {x} {x'} {y} {y'} hs hx hy = ap (λ (a : Standing). live_or a x y) hs ∙ ap₂ (λ (a c : ℤ). live_or s' a c) hx hy

member_same : {n n' : Name} {s s' : Standing} {p p' u u' v v' : ℤ} → n ≡ n' → s ≡ s' → p ≡ p' → u ≡ u' → v ≡ v' →
    ◌≡◌ {A = Member} (record { name = n; standing = s; payment = p; used = u; unused = v })
    (record { name = n'; standing = s'; payment = p'; used = u'; unused = v' })
member_same {n} {n'} {s} {s'} {p} {p'} {u} {u'} {v} {v'} hn hs hp hu hv =
    ap₂ (λ (a : Name) (c : Standing). record { name = a; standing = c; payment = p; used = u; unused = v }) hn hs
    ∙ ap₂ (λ (a c : ℤ). record { name = n'; standing = s'; payment = a; used = c; unused = v }) hp hu
    ∙ ap (λ (a : ℤ). record { name = n'; standing = s'; payment = p'; used = u'; unused = a }) hv

-- ---- over the regions of a requirement
over_same : (q : Requirement) (f g : ℕ → ℤ) → ((r : ℕ) → r < regions → f r ≡ g r) → over_regions q f ≡ over_regions q g
over_same q f g e = sum_ext regions _ _ (λ r l. ap (λ (z : ℤ). when (covers q r) z) (e r l))

each_same : (q : Requirement) (f g : ℕ → Bool) → ((r : ℕ) → r < regions → f r ≡ g r) → each_region q f ≡ each_region q g
each_same q f g e = every_ext regions _ _ (λ r l. ap (λ (t : Bool). not (covers q r) || t) (e r l))

-- ---- the two sums: of what stands above zero, and of what stands below
above : (z : ℤ) → wanted Raise z ≡ pos (gain z)
above (pos n) = refl
above (negsuc n) = refl

below : (z : ℤ) → wanted Lower z ≡ neg_ℤ (pos (loss z))
below (pos n) = refl
below (negsuc n) = refl

gains : {A : Type 0} (f : A → ℤ) (xs : List A) → gain (total (λ x. wanted Raise (f x)) xs) ≡ totalℕ (λ x. gain (f x)) xs
gains f xs = ap gain (total_same _ (λ x. pos (gain (f x))) (λ x. above (f x)) xs ∙ total_naturals (λ x. gain (f x)) xs)

losses : {A : Type 0} (f : A → ℤ) (xs : List A) → loss (total (λ x. wanted Lower (f x)) xs) ≡ totalℕ (λ x. loss (f x)) xs
losses f xs =
    ap loss (total_same _ (λ x. neg_ℤ (pos (loss (f x)))) (λ x. below (f x)) xs ∙ total_negation (λ x. pos (loss (f x))) xs
    ∙ ap neg_ℤ (total_naturals (λ x. loss (f x)) xs))
    ∙ loss_negation (pos (totalℕ (λ x. loss (f x)) xs))

-- the larger of them is RCR's point, in both directions
larger : (d : Direction) (ps : List Plant) (t : ℕ) → max (totalℕ (λ p. gain (p.deviation t)) (good_plants ps))
    (totalℕ (λ p. loss (p.deviation t)) (good_plants ps)) ≡ response d ps t
larger Raise ps t = sym (response_is Raise ps t)
larger Lower ps t =
    max_swap _ _
    ∙ sym (response_is Lower ps t ∙ ap₂ max (totalℕ_same _ _ (λ p. gain_negation (p.deviation t)) (good_plants ps))
    (totalℕ_same _ _ (λ p. loss_negation (p.deviation t)) (good_plants ps)))
  where
    max_swap : (m n : ℕ) → max m n ≡ max n m
    max_swap m n = omega arith

module _
    (t : Tally) (l : Lent) (b : Book) (h : Keeps t l b) (inside : All (λ u. u.region < regions) b.roster)
    (fits : (r p : ℕ) → r < regions → p < points → Within measure_limit (measure_in b r p)) where
  -- ---- a row that is not passed over is its plant
  abbrev pub many : ℕ
  many = length b.roster

  abbrev pub plant : ℕ → Plant
  plant = plant_at (roster_unit b)

  abbrev pub last : ℕ → Bool
  last = ends (roster_unit b) many

  pub region_fits : (j : ℕ) → j < many → (plant j).region < regions
  region_fits j i = rw (h.regions j i) (all_at (λ u. u.region < regions) b.roster inside j (unit_in []) i)

  pub home_is : (j : ℕ) → j < many → get_or l.homes j 0 ≡ cond (last j) (home (plant j).region (plant j).good) passed_over
  home_is j i = h.homes j i ∙ ap (λ (r : ℕ). cond (last j) (home r (plant j).good) passed_over) (sym (h.regions j i))

  region_is : (j : ℕ) → j < many → last j ≡ true → region_of l j ≡ (plant j).region
  region_is j i e =
      ap (λ (n : ℕ). n / 2) (home_is j i ∙ ap (λ (s : Bool). cond s (home (plant j).region (plant j).good) passed_over) e)
      ∙ home_region (plant j).region (plant j).good

  good_is : (j : ℕ) → j < many → last j ≡ true → good_of l j ≡ (plant j).good
  good_is j i e =
      ap (λ (n : ℕ). eqb (n % 2) 1) (home_is j i ∙ ap (λ (s : Bool). cond s (home (plant j).region (plant j).good) passed_over) e)
      ∙ home_good (plant j).region (plant j).good

  -- one that is passed over is of no region
  region_past : (j : ℕ) → j < many → last j ≡ false → region_of l j ≡ regions
  region_past j i e = ap (λ (n : ℕ). n / 2) (home_is j i ∙ ap (λ (s : Bool). cond s (home (plant j).region (plant j).good) passed_over) e)

  -- a test of a region that there is
  tested : (s : ℕ → Bool) → s regions ≡ false → (j : ℕ) → j < many → s (region_of l j) ≡ last j && s (plant j).region
  tested s none j i = go (last j) refl
    where
      go : (e : Bool) → last j ≡ e → s (region_of l j) ≡ e && s (plant j).region
      go true e = ap s (region_is j i e)
      go false e = ap s (region_past j i e) ∙ none

  tested_good : (s : ℕ → Bool) → s regions ≡ false → (g : Bool → Bool) (j : ℕ) → j < many →
      s (region_of l j) && g (good_of l j) ≡ last j && (s (plant j).region && g (plant j).good)
  tested_good s none g j i = go (last j) refl
    where
      go : (e : Bool) → last j ≡ e → s (region_of l j) && g (good_of l j) ≡ e && (s (plant j).region && g (plant j).good)
      go true e = ap₂ (λ (r : ℕ) (t : Bool). s r && g t) (region_is j i e) (good_is j i e)
      go false e = ap (λ (t : Bool). t && g (good_of l j)) (ap s (region_past j i e) ∙ none)

  row_by : (j k : ℕ) → j < many → k < row_each → in_row l.rows j k ≡ row_of (weight_in b (plant j).region) (plant j) k
  row_by j k i m = h.rows j k i m ∙ ap (λ (r : ℕ). row_of (weight_in b r) (plant j) k) (sym (h.regions j i))

  performance_is : (d : Direction) (j : ℕ) → j < many → performance_of l d j ≡ plant_performance b d (plant j)
  unfolding plant_performance
  performance_is Raise j i = row_by j 0 i (omega arith)
  performance_is Lower j i = row_by j 1 i (omega arith)

  plant_defaults_are : (d : Direction) (j : ℕ) → j < many →
      (unit_default l d 0 j ≡ (by d (plant j).defaults).payment) × (unit_default l d 1 j ≡ (by d (plant j).defaults).used) ×
      (unit_default l d 2 j ≡ (by d (plant j).defaults).unused)
  plant_defaults_are Raise j i = (row_by j 2 i (omega arith), row_by j 3 i (omega arith), row_by j 4 i (omega arith))
  plant_defaults_are Lower j i = (row_by j 5 i (omega arith), row_by j 6 i (omega arith), row_by j 7 i (omega arith))

  -- the plants of the roster are those of their last units
  pub plants_are : plants b.roster ≡ map plant (those last (listed 0 many (λ j. j)))
  plants_are = ap plants (sym (listed_back b.roster (unit_in []))) ∙ plants_listed (roster_unit b) many

  -- those of them that pass
  passing : (q : Plant → Bool) → those q (plants b.roster) ≡ map plant (those (λ i. last i && q (plant i)) (listed 0 many (λ j. j)))
  passing q =
      ap (those q) plants_are ∙ those_map q plant (those last (listed 0 many (λ j. j)))
      ∙ ap (map plant) (those_those (λ i. q (plant i)) last (listed 0 many (λ j. j)))

  -- ---- figures are their region's
  pub reliable_at : (d : Direction) (r : ℕ) → r < regions → reliable_of l d r ≡ reliable_in b d r
  unfolding reliable_in
  reliable_at Raise r i = ap (λ (x : ℤ). lt_z (pos 0) x) (h.figures r 2 i (omega arith)) ∙ figure_reliable (reliable b.settings (regionOf b r) Raise)
  reliable_at Lower r i = ap (λ (x : ℤ). lt_z (pos 0) x) (h.figures r 3 i (omega arith)) ∙ figure_reliable (reliable b.settings (regionOf b r) Lower)

  pub residual_defaults_are : (d : Direction) (r : ℕ) → r < regions → (residual_default l d 0 r ≡ (by d (regionOf b r).defaults).payment) ×
      (residual_default l d 1 r ≡ (by d (regionOf b r).defaults).used) × (residual_default l d 2 r ≡ (by d (regionOf b r).defaults).unused)
  residual_defaults_are Raise r i = (h.figures r 4 i (omega arith), h.figures r 5 i (omega arith), h.figures r 6 i (omega arith))
  residual_defaults_are Lower r i = (h.figures r 7 i (omega arith), h.figures r 8 i (omega arith), h.figures r 9 i (omega arith))

  -- ---- a row's member
  standing_is : (d : Direction) (j : ℕ) → j < many → last j ≡ true → row_standing l d j ≡ plant_standing b d (plant j)
  standing_is d j i e =
      ap₂ (λ (s t : Bool). standing s t BadUnit) (ap (λ (r : ℕ). reliable_of l d r) (region_is j i e)
      ∙ reliable_at d (plant j).region (region_fits j i)) (good_is j i e)

  pub row_is : (d : Direction) (j : ℕ) → j < many → last j ≡ true → row_member l d j ≡ plant_member b d (plant j)
  unfolding plant_member
  row_is d j i e =
      let s = standing_is d j i e in
      let p = performance_is d j i in
      let f = plant_defaults_are d j i in
      member_same (ap (λ (n : ℕ). unit n) (h.numbers j i)) s (live_or_same s p f.0) (live_or_same s p f.1) f.2

  rows_are : (q : Requirement) → covers q regions ≡ false →
      map (row_member l q.direction) (rows_of t l q) ≡ map (plant_member b q.direction) (plants_among b q)
  rows_are q none =
      ap (λ (n : ℕ). map (row_member l q.direction) (those (λ i. covers q (region_of l i)) (listed 0 n (λ i. i)))) h.units
      ∙ those_same (λ i. covers q (region_of l i)) (λ i. last i && covers q (plant i).region) (row_member l q.direction)
      (λ i. plant_member b q.direction (plant i)) 0 many (λ i m. tested (covers q) none i (omega arith))
      (λ i m e. row_is q.direction i (omega arith) (both (last i) _ e).0)
      ∙ sym (ap (map (plant_member b q.direction)) (passing (λ p. covers q p.region))
      ∙ map_map (plant_member b q.direction) plant (those (λ i. last i && covers q (plant i).region) (listed 0 many (λ j. j))))

  -- ---- the residual
  -- as many rows pass a test as plants do
  counted : (p : ℕ → Bool) (passes : Plant → Bool) → ((j : ℕ) → j < many → p j ≡ last j && passes (plant j)) →
      count t.units p ≡ length (those passes (plants b.roster))
  counted p passes e =
      ap (λ (n : ℕ). count n p) h.units ∙ sumℕ_ext many _ _ (λ i m. ap one (e i m))
      ∙ sym (ap length (passing passes) ∙ length_map plant (those (λ i. last i && passes (plant i)) (listed 0 many (λ j. j))) ∙ those_count (λ i. last i && passes (plant i)) many)

  -- a region that there is, is not the one that is none
  no_region_five : (r : ℕ) → r < regions → eqb r regions ≡ false
  no_region_five r m = ne_eqb r regions (λ e. omega arith)

  pub some_good_is : (r : ℕ) → r < regions → some_good_or_none_of t l r ≡ some_good_or_none b r
  unfolding some_good_or_none
  some_good_is r m =
      ap₂ (λ (g n : ℕ). leb 1 g || eqb n 0)
      (counted (λ i. eqb r (region_of l i) && good_of l i) (λ p. eqb r p.region && p.good)
      (λ j i. tested_good (eqb r) (no_region_five r m) (λ s. s) j i)
      ∙ ap length (sym (those_those (λ p. p.good) (λ p. eqb r p.region) (plants b.roster))))
      (counted (λ i. eqb r (region_of l i)) (λ p. eqb r p.region) (λ j i. tested (eqb r) (no_region_five r m) j i))

  residual_at : (d : Direction) (r : ℕ) → r < regions → residual_of t l d r ≡ residual_performance b d r
  unfolding residual_performance plant_performance
  residual_at d r m =
      ap neg_ℤ (ap (λ (n : ℕ). sum n (λ i. when (eqb r (region_of l i)) (when (good_of l i) (performance_of l d i)))) h.units
      ∙ sum_ext many _ (λ i. when (last i) (value (plant i))) each
      ∙ sym (plants_total (roster_unit b) value many)
      ∙ ap (λ (us : List Unit). total value (plants us)) (listed_back b.roster (unit_in []))
      ∙ sym (total_those (λ p. eqb r p.region) (λ p. when p.good (at r p)) (plants b.roster))
      ∙ sym (total_those (λ p. p.good) (at r) (plants_of b r)))
      ∙ sym (residual_is d (weight_in b r) (plants_of b r))
    where
      at : ℕ → Plant → ℤ
      at s p = performance d (weight_in b s) p.deviation

      value : Plant → ℤ
      value p = when (eqb r p.region) (when p.good (at r p))

      each : (j : ℕ) → j < many → when (eqb r (region_of l j)) (when (good_of l j) (performance_of l d j)) ≡ when (last j) (value (plant j))
      each j i = go (last j) refl
        where
          go : (e : Bool) → last j ≡ e → when (eqb r (region_of l j)) (when (good_of l j) (performance_of l d j)) ≡ when e (value (plant j))
          go true e =
              ap₂ (λ (s : ℕ) (t : Bool). when (eqb r s) (when t (performance_of l d j))) (region_is j i e) (good_is j i e)
              ∙ ap (λ (x : ℤ). when (eqb r (plant j).region) (when (plant j).good x)) (performance_is d j i)
              ∙ when_there (λ s. when (plant j).good (at s (plant j))) r (plant j).region
          go false e = rw (region_past j i e, no_region_five r m)

  pub value_is : (d : Direction) (field : ℕ) (pick : Defaults → ℤ) (r : ℕ) → r < regions → residual_default l d field r ≡ pick (by d (regionOf b r).defaults) →
      residual_value t l d field r ≡ residual_or b d pick r
  value_is d field pick r i e =
      live_or_same (ap₂ (λ (s t : Bool). standing s t NoGoodUnit) (reliable_at d r i) (some_good_is r i)) (residual_at d r i) e

  residual_row_is : (q : Requirement) → residual_row t l q ≡ residual_member b q
  unfolding residual_member
  residual_row_is q =
      let d = q.direction in
      member_same refl (ap₂ (λ (s t : Bool). standing s t NoGoodUnit) (each_same q _ _ (reliable_at d)) (each_same q _ _ some_good_is))
      (over_same q _ _ (λ r i. value_is d 0 (λ f. f.payment) r i (residual_defaults_are d r i).0))
      (over_same q _ _ (λ r i. value_is d 1 (λ f. f.used) r i (residual_defaults_are d r i).1))
      (over_same q _ _ (λ r i. (residual_defaults_are d r i).2))

  pub members_are : (q : Requirement) → covers q regions ≡ false → kept_members t l q ≡ members b q
  unfolding kept_members members
  members_are q none = ap₂ (λ (ms : List Member) (m : Member). ms ++ (m ∷ [])) (rows_are q none) (residual_row_is q)

  -- ---- RCR
  pub reliable_is : (q : Requirement) → kept_reliable l q ≡ all_reliable b q
  unfolding all_reliable
  reliable_is q = each_same q _ _ (reliable_at q.direction)

  few_bad_is : (q : Requirement) → covers q regions ≡ false → kept_few_bad t l q ≡ few_bad b.settings.percent (plants_among b q)
  few_bad_is q none =
      ap₂ (λ (m n : ℕ). leb (100 * m) n)
      (counted (λ i. covers q (region_of l i) && not (good_of l i)) (λ p. covers q p.region && not p.good)
      (λ j i. tested_good (covers q) none not j i)
      ∙ ap length (sym (those_those (λ p. not p.good) (λ p. covers q p.region) (plants b.roster))))
      (ap₂ ◌*◌ (ap (λ (s : Settings). s.percent) h.settings)
      (counted (λ i. covers q (region_of l i)) (λ p. covers q p.region) (λ j i. tested (covers q) none j i)))

  weighed_is : (q : Requirement) (p : ℕ) → p < points → kept_weighed l q p ≡ weighed_measure b q p
  unfolding weighed_measure
  weighed_is q p i =
      over_same q _ _
      (λ r m. ap₂ ◌*ℤ◌ (h.figures r 1 m (omega arith))
      (ap measure_held (h.measures r p m i) ∙ measure_read b.settings (regionOf b r) p (fits r p m i)))

  -- the sums of its regions are the sums over its plants
  sums_are : (d : Direction) (q : Requirement) (p : ℕ) → p < points → kept_sum l d q p ≡ total (λ x. wanted d (x.deviation p)) (good_plants (plants_among b q))
  sums_are d q p i =
      over_same q _ (λ r. total (λ x. when x.good (wanted d (x.deviation p))) (plants_of b r))
      (λ r m. h.sums d r p m i ∙ total_those (λ x. x.good) (λ x. wanted d (x.deviation p)) (plants_of b r))
      ∙ total_classes regions (λ r. covers q r) (λ x. x.region) (λ x. when x.good (wanted d (x.deviation p))) (plants b.roster)
      (plants_inside b.roster inside)
      ∙ sym (total_those (λ x. x.good) (λ x. wanted d (x.deviation p)) (plants_among b q))

  response_at : (q : Requirement) (p : ℕ) → p < points → kept_response l q p ≡ response q.direction (plants_among b q) p
  response_at q p i =
      ap₂ (λ (x y : ℤ). max (gain x) (loss y)) (sums_are Raise q p i) (sums_are Lower q p i)
      ∙ ap₂ max (gains (λ x. x.deviation p) (good_plants (plants_among b q))) (losses (λ x. x.deviation p) (good_plants (plants_among b q)))
      ∙ larger q.direction (plants_among b q) p

  pub rcr_is : (q : Requirement) → covers q regions ≡ false → kept_rcr t l q ≡ rcr b q
  unfolding kept_rcr rcr
  rcr_is q none =
      ap₂ (λ (s : Bool) (n : ℕ). cond s n 0) (ap₂ ◌&&◌ (reliable_is q) (few_bad_is q none))
      (largest_ext points _ _ (λ p i. ap₂ (λ (s : Bool) (n : ℕ). cond s n 0) (ap (λ (z : ℤ). lt_z (pos 0) (toward q.direction z)) (weighed_is q p i))
      (response_at q p i)))

  -- ---- the answer
  -- a set of five regions covers no sixth
  none_past : (q : Requirement) → q.set ≤ 31 → covers q regions ≡ false
  none_past q few = ap (λ (n : ℕ). eqb n 1) (past q.set few)
    where
      past : (set : ℕ) → set ≤ 31 → set / 2 ^ regions % 2 ≡ 0
      past set few = omega arith

  pub answer_is : (q : Requirement) → q.set ≤ 31 → kept_answer t l q ≡ answer b q
  unfolding kept_answer answer
  answer_is q few =
      let none = none_past q few in
      ap₂ (λ (n : ℕ) (s : Bool). answered q n s (kept_members t l q)) (rcr_is q none) (reliable_is q)
      ∙ ap (λ (ms : List Member). answered q (rcr b q) (all_reliable b q) ms) (members_are q none)
