-- One record more: what the lent lists hold after a frequency record and after a unit. Each list is as long as it was.
use mathlib.Core.Path.{◌≡◌, refl, sym, ◌∙◌, ap, ap₂}
use mathlib.Core.Bool.{Bool, true, false, cond, not, ◌&&◌, false≢true}
use mathlib.Core.List.{List}
use Prim.Native.Nat.{ℕ, zero, suc, ◌+◌, ◌*◌, ◌-◌, ◌/◌, ◌%◌, ◌≤◌, ◌<◌}
use native.Mathlib.Numerals.{add-one}
use native.Mathlib.Decide.{dec_lt}
use native.Mathlib.Omega.{arith}
use lib.Dec.{eqb}
use lib.IntN.{ℤ, pos, ◌+ℤ◌, ◌-ℤ◌, ◌*ℤ◌}
use lib.ListN.{length, get_or, set}
use borrow.Author.Tests.{le-leb, eqb-true, not-true}
use Rattle.integers.proofs.Pairs.{ring, v, ◌⊕◌}
use Rattle.integers.specs.Sums.{sum, every, when, both}
use Rattle.integers.proofs.Sums.{sum_none, sum_ext}
use Rattle.integers.specs.Fills.{filled}
use Rattle.integers.proofs.Fills.{filled_none, filled_store, filled_length, filled_at, filled_ext}
use Rattle.integers.specs.Bounds.{Within}
use Rattle.rules.specs.Quantities.{points, regions, measure_limit}
use Rattle.rules.specs.Book.{Unit}
use Rattle.rules.specs.Measure.{measure}
use Rattle.rules.specs.declared.Direction.{Direction}
use Rattle.rules.specs.declared.Direction.TheVariants.{Raise, Lower}
use Rattle.rules.specs.Groups.{same_group, new_among, group_fine}
use Rattle.rules.specs.Deviation.{deviation, good}
use Rattle.rules.specs.Performance.{weight, wanted, performance}
use Rattle.laws.proofs.PerformanceLaws.{performance_plus}
use Rattle.interval.specs.declared.Tally.{Tally}
use Rattle.interval.specs.Tally.{settings_of, next_region, units_taken}
use Rattle.interval.specs.Lent.{
  Lent,
  kept_measure,
  weight_held,
  sums_each,
  sums_length,
  figures_each,
  figures_of,
  home,
  passed_over,
  put_from,
  side_of,
  part_of,
  moved,
  row_each,
  in_row,
  row_of,
  six,
  joined,
  number_with,
  row_with,
  deviations_with,
  joins,
  group_fits,
}
use Rattle.interval.specs.Lent as L
use Rattle.interval.proofs.HeldLaws.{weight_read}
use Rattle.interval.specs.Promises.{region_kept, weighed, unit_kept}
use Rattle.chain.specs.Long.{Long}
use Rattle.chain.proofs.ChainLaws.{in_block, block_at, block_next, set_inside, home_region, home_good, moved_adds, or_true}
use Rattle.chain.specs.Chain.{the_settings, region, unit, measure_at, sum_at, figure_at, weight_of, row_at, adds, deviations_at, Leaves}
use Rattle.chain.specs.PlantsAt.{joined_at, plant_at, good_before, deviation_before, home_at, OneRegion, units_before}
use Rattle.chain.proofs.PlantsAt.{ends_last, ends_before, next_has, plant_deviation, plant_good}

-- the deviations of the group that was taken last stand in a list of the same length
deviations_length : (unit : ℕ → Unit) (m : ℕ) (ds : List ℤ) → length (deviations_at unit m ds) ≡ length ds
unfolding deviations_at
deviations_length unit zero ds = refl
deviations_length unit (suc i) ds = go (deviations_length unit i ds) (eqb (unit i).group 0)
  where
    go : length (deviations_at unit i ds) ≡ length ds → (s : Bool) →
        length (cond s (deviations_at unit i ds) (filled points (plant_at unit i).deviation (deviations_at unit i ds))) ≡ length ds
    go ih true = ih
    go ih false = filled_length points _ _ ∙ ih

-- a performance looks at the weights of the 75 points alone
weighed_same : (d : Direction) (w w' dev : ℕ → ℤ) → ((t : ℕ) → t < points → w t ≡ w' t) → performance d w dev ≡ performance d w' dev
unfolding performance
weighed_same d w w' dev h = sum_ext points _ _ (λ t l. ap (λ (z : ℤ). wanted d z *ℤ dev t) (h t l))

-- a group number that a unit joins is not 0
pub some_group : (g h : ℕ) → same_group g h ≡ true → eqb g 0 ≡ false
some_group g h e =
    let some = both (not (eqb h 0)) (eqb g h) e in
    ap (λ (n : ℕ). eqb n 0) (eqb-true g h some.1) ∙ not-true (eqb h 0) some.0

-- a unit that may stand in its group is in one region with the unit that it joins
pub one_region : (unit : ℕ → Unit) (m : ℕ) → group_fine (units_before unit m) (unit m) ≡ true → OneRegion unit m
unfolding group_fine units_before
one_region unit zero fine = refl
one_region unit (suc i) fine = λ e. eqb-true _ _ (both (eqb (unit i).region (unit (suc i)).region) _ (rw e at fine)).0

-- performances add up, by what the points of one region weigh
performances_add : (d : Direction) (s : Bool) (w w' : ℕ → ℤ) (x : ℤ) (p q : ℕ → ℤ) → ((t : ℕ) → t < points → w t ≡ w' t) →
    (s ≡ true → x ≡ performance d w' p) → when s x +ℤ performance d w q ≡ cond s (performance d w' (λ t. p t +ℤ q t)) (performance d w' q)
performances_add d true w w' x p q same e = ap₂ ◌+ℤ◌ (e refl) (weighed_same d w w' q same) ∙ sym (performance_plus d w' p q)
performances_add d false w w' x p q same e =
    ring (v (pos 0) ⊕ v (performance d w q)) (v (performance d w q)) (omega arith) ∙ weighed_same d w w' q same

module _ {part : ℕ → List ℕ} {l₀ : Lent} where
  module _ {k m : ℕ} {l : Lent} (w : Leaves part l₀ k m l) where
    pub still_long : {units : ℕ} → Long l₀ units → Long l units
    still_long h =
        record {
          measures = rw (ap length w.measures ∙ filled_length _ _ _) h.measures;
          sums = rw (ap length w.sums ∙ filled_length _ _ _) h.sums;
          figures = rw (ap length w.figures ∙ filled_length _ _ _) h.figures;
          numbers = rw (ap length w.numbers ∙ filled_length _ _ _) h.numbers;
          homes = rw (ap length w.homes ∙ filled_length _ _ _) h.homes;
          rows = rw (ap length w.rows ∙ filled_length _ _ _) h.rows;
          groups = rw (ap length w.groups ∙ filled_length _ _ _) h.groups;
          deviations = λ some. rw (ap length w.deviations ∙ deviations_length (unit part) m l₀.deviations) (h.deviations some);
        }

    pub was_long : {units : ℕ} → Long l units → Long l₀ units
    was_long h =
        record {
          measures = rw (ap length w.measures ∙ filled_length _ _ _) at h.measures;
          sums = rw (ap length w.sums ∙ filled_length _ _ _) at h.sums;
          figures = rw (ap length w.figures ∙ filled_length _ _ _) at h.figures;
          numbers = rw (ap length w.numbers ∙ filled_length _ _ _) at h.numbers;
          homes = rw (ap length w.homes ∙ filled_length _ _ _) at h.homes;
          rows = rw (ap length w.rows ∙ filled_length _ _ _) at h.rows;
          groups = rw (ap length w.groups ∙ filled_length _ _ _) at h.groups;
          deviations = λ some. rw (ap length w.deviations ∙ deviations_length (unit part) m l₀.deviations) at (h.deviations some);
        }

  -- ---- a frequency record
  pub region_leaves : {k : ℕ} (t : Tally) {l : Lent} → Leaves part l₀ k 0 l → next_region t ≡ k → settings_of t ≡ the_settings part →
      Leaves part l₀ (suc k) 0 (region_kept t (region part k) l)
  region_leaves {k} t w at s =
      record {
        measures = rw (at, s, w.measures) (block_next points k _ (measure_at part) l₀.measures measure_here);
        sums = rw (at, w.sums) (block_next sums_each k _ (sum_at part 0) l₀.sums (λ i h. sym (sum_none _)));
        figures = rw (at, s, w.figures) (block_next figures_each k _ (figure_at part) l₀.figures figure_here);
        numbers = w.numbers;
        homes = w.homes;
        rows = w.rows;
        groups = w.groups;
        deviations = w.deviations;
      }
    where
      measure_here : (i : ℕ) → i < points → kept_measure (the_settings part) (region part k) i ≡ measure_at part (points * k + i)
      measure_here i h = sym (in_block points (λ r. kept_measure (the_settings part) (region part r)) k i h)

      figure_here : (i : ℕ) → i < figures_each → figures_of (the_settings part) (region part k) i ≡ figure_at part (figures_each * k + i)
      figure_here i h = sym (in_block figures_each (λ r. figures_of (the_settings part) (region part r)) k i h)

  -- ---- a unit
  -- what is kept of the unit before, where there is one
  module _ {i : ℕ} {l : Lent} (w : Leaves part l₀ regions (suc i) l) (long : Long l₀ (suc (suc i))) where
    group_kept : get_or l.groups i 0 ≡ (unit part i).group
    group_kept = ap (λ (xs : List ℕ). get_or xs i 0) w.groups ∙ filled_at (suc i) _ l₀.groups i 0 (omega arith) (omega (arith, long.groups))

    number_kept : get_or l.numbers i 0 ≡ (plant_at (unit part) i).number
    number_kept = ap (λ (xs : List ℕ). get_or xs i 0) w.numbers ∙ filled_at (suc i) _ l₀.numbers i 0 (omega arith) (omega (arith, long.numbers))

    pub home_kept : get_or l.homes i 0 ≡ home (unit part i).region (plant_at (unit part) i).good
    home_kept =
        ap (λ (xs : List ℕ). get_or xs i 0) w.homes ∙ filled_at (suc i) _ l₀.homes i 0 (omega arith) (omega (arith, long.homes))
        ∙ ap (λ (s : Bool). cond s (home (unit part i).region (plant_at (unit part) i).good) passed_over) (ends_last (unit part) i)

    pub row_kept : (k : ℕ) → k < row_each →
        in_row l.rows i k ≡ row_of (weight (the_settings part) (region part (unit part i).region)) (plant_at (unit part) i) k
    row_kept k h =
        ap (λ (xs : List ℤ). get_or xs (row_each * i + k) (pos 0)) w.rows
        ∙ block_at row_each (suc i) (row_at part) l₀.rows i k (pos 0) h (omega arith) (omega (arith, long.rows))
        ∙ in_block row_each (λ j. row_of (weight (the_settings part) (region part (unit part j).region)) (plant_at (unit part) j)) i k h

    -- a unit with a group has left its plant's deviations
    pub deviations_kept : (eqb (unit part i).group 0 ≡ false) → (t : ℕ) → t < points → get_or l.deviations t (pos 0) ≡ (plant_at (unit part) i).deviation t
    unfolding deviations_at
    deviations_kept e t h =
        ap (λ (xs : List ℤ). get_or xs t (pos 0)) (w.deviations
        ∙ ap (λ (s : Bool). cond s (deviations_at (unit part) i l₀.deviations) (filled points (plant_at (unit part) i).deviation
        (deviations_at (unit part) i l₀.deviations))) e)
        ∙ filled_at points _ (deviations_at (unit part) i l₀.deviations) t (pos 0) h
        (rw (deviations_length (unit part) i l₀.deviations) (omega (arith, long.deviations (omega arith))))

  -- the plant of the unit that comes, from what is kept: m units are taken
  joined_is : (m : ℕ) {l : Lent} → Leaves part l₀ regions m l → Long l₀ (suc m) → joined m (unit part m) l ≡ joined_at (unit part) m
  joined_is zero w long = refl
  joined_is (suc i) {l} w long =
      let less : suc i - 1 ≡ i = omega arith in
      rw (le-leb 1 (suc i) (omega arith), less, group_kept w long)

  good_before_is : (m : ℕ) {l : Lent} → Leaves part l₀ regions m l → Long l₀ (suc m) →
      L.good_before m (unit part m) l ≡ good_before (unit part) m
  good_before_is zero w long = refl
  good_before_is (suc i) {l} w long =
      let less : suc i - 1 ≡ i = omega arith in
      rw (joined_is (suc i) w long, less, home_kept w long, home_good (unit part i).region (plant_at (unit part) i).good)

  deviation_before_is : (m : ℕ) {l : Lent} → Leaves part l₀ regions m l → Long l₀ (suc m) → (t : ℕ) → t < points →
      L.deviation_before m (unit part m) l t ≡ deviation_before (unit part) m t
  deviation_before_is zero w long t h = refl
  deviation_before_is (suc i) {l} w long t h = rw (joined_is (suc i) w long) (go (joined_at (unit part) (suc i)) refl)
    where
      go : (s : Bool) → joined_at (unit part) (suc i) ≡ s → when s (get_or l.deviations t (pos 0)) ≡ when s ((plant_at (unit part) i).deviation t)
      go true e = deviations_kept w long (some_group (unit part i).group (unit part (suc i)).group e) t h
      go false e = refl

  number_is : (m : ℕ) {l : Lent} → Leaves part l₀ regions m l → Long l₀ (suc m) → number_with m (unit part m) l ≡ (plant_at (unit part) m).number
  unfolding plant_at
  number_is zero w long = refl
  number_is (suc i) {l} w long =
      let less : suc i - 1 ≡ i = omega arith in
      rw (joined_is (suc i) w long, less, number_kept w long) (sym (next_has (unit part) (λ p. p.number) i))

  -- the row before is by the same weights, where the unit joins its group
  before_here : {i : ℕ} {l : Lent} → OneRegion (unit part) (suc i) → Leaves part l₀ regions (suc i) l → Long l₀ (suc (suc i)) →
      joined_at (unit part) (suc i) ≡ true → (k : ℕ) → k < row_each →
      in_row l.rows (suc i - 1) k ≡ row_of (weight_of part (suc i)) (plant_at (unit part) i) k
  before_here {i} {l} one w long e k h =
      let less : suc i - 1 ≡ i = omega arith in
      ap (λ (j : ℕ). in_row l.rows j k) less ∙ row_kept w long k h
      ∙ ap (λ (r : ℕ). row_of (weight (the_settings part) (region part r)) (plant_at (unit part) i) k) (one e)

  -- a row goes on from the row before
  row_next : (m : ℕ) {l : Lent} → Leaves part l₀ regions m l → Long l₀ (suc m) → (w : ℕ → ℤ) → OneRegion (unit part) m →
      ((t : ℕ) → t < points → w t ≡ weight (the_settings part) (region part (unit part m).region) t) → (k : ℕ) → k < row_each →
      row_with m (unit part m) l w k ≡ row_of (weight (the_settings part) (region part (unit part m).region)) (plant_at (unit part) m) k
  unfolding plant_at
  row_next zero x long w one same zero h = performances_add Raise false _ _ (pos 0) (λ t. pos 0) (deviation (unit part 0)) same (λ e. absurd (false≢true e))
  row_next zero x long w one same (suc zero) h = performances_add Lower false _ _ (pos 0) (λ t. pos 0) (deviation (unit part 0)) same (λ e. absurd (false≢true e))
  row_next zero x long w one same (suc (suc k)) h = refl
  row_next (suc i) {l} k long w one same zero h =
      rw (joined_is (suc i) k long)
      (performances_add Raise (joined_at (unit part) (suc i)) w _ _ (plant_at (unit part) i).deviation (deviation (unit part (suc i))) same
      (λ e. before_here one k long e 0 h) ∙ sym (next_has (unit part) (λ p. performance Raise (weight_of part (suc i)) p.deviation) i))
  row_next (suc i) {l} k long w one same (suc zero) h =
      rw (joined_is (suc i) k long)
      (performances_add Lower (joined_at (unit part) (suc i)) w _ _ (plant_at (unit part) i).deviation (deviation (unit part (suc i))) same
      (λ e. before_here one k long e 1 h) ∙ sym (next_has (unit part) (λ p. performance Lower (weight_of part (suc i)) p.deviation) i))
  row_next (suc i) {l} x long w one same (suc (suc k)) h =
      rw (joined_is (suc i) x long) (go (joined_at (unit part) (suc i)) refl ∙ sym (next_has (unit part) (λ p. six p.defaults k) i))
    where
      go : (s : Bool) → joined_at (unit part) (suc i) ≡ s →
          cond s (in_row l.rows (suc i - 1) (2 + k)) (six (unit part (suc i)).defaults k) ≡
          cond s (six (plant_at (unit part) i).defaults k) (six (unit part (suc i)).defaults k)
      go true e =
          let here : 2 + k ≡ suc (suc k) = omega arith in
          ap (in_row l.rows (suc i - 1)) here ∙ before_here one x long e (suc (suc k)) h
      go false e = refl

  -- ---- whether a unit may stand in its group is told by what is kept as by the units before
  pub joins_is : (i g : ℕ) {l : Lent} → Leaves part l₀ regions (suc i) l → Long l₀ (suc (suc i)) → joins g (suc i) l ≡ same_group (unit part i).group g
  joins_is i g w long =
      let less : suc i - 1 ≡ i = omega arith in
      rw (le-leb 1 (suc i) (omega arith), less, group_kept w long)

  pub group_judged : (m : ℕ) {l : Lent} → Leaves part l₀ regions m l → Long l₀ (suc m) → (u : Unit) →
      group_fits m u l ≡ group_fine (units_before (unit part) m) u
  unfolding group_fits group_fine new_among units_before every
  group_judged zero w long u = or_true (eqb u.group 0)
  group_judged (suc i) {l} w long u =
      let less : suc i - 1 ≡ i = omega arith in
      let home_is : get_or l.homes (suc i - 1) 0 / 2 ≡ (unit part i).region =
      ap (λ (k : ℕ). get_or l.homes k 0 / 2) less ∙ ap (λ (k : ℕ). k / 2) (home_kept w long) ∙ home_region (unit part i).region (plant_at (unit part) i).good in
      rw (joins_is i u.group w long, home_is, groups_tell (suc i) (omega arith))
    where
      groups_tell : (k : ℕ) → k ≤ suc i → every k (λ j. not (eqb (get_or l.groups j 0) u.group)) ≡ new_among u.group (units_before (unit part) k)
      groups_tell zero h = refl
      groups_tell (suc k) h =
          ap₂ ◌&&◌ (groups_tell k (omega arith)) (ap (λ (g : ℕ). not (eqb g u.group))
          (ap (λ (xs : List ℕ). get_or xs k 0) w.groups ∙ filled_at (suc i) _ l₀.groups k 0 (omega arith) (omega (arith, long.groups))))

  -- the homes of the units before, with the last of them passed over where its group goes on
  homes_next : (m : ℕ) {l : Lent} → Leaves part l₀ regions m l → Long l₀ (suc m) →
      cond (joined_at (unit part) m) (set l.homes (m - 1) passed_over) l.homes ≡ filled m (home_at (unit part) (suc m)) l₀.homes
  homes_next zero w long = w.homes ∙ filled_none _ _ ∙ sym (filled_none _ _)
  homes_next (suc i) {l} w long =
      ap (λ (xs : List ℕ). cond (joined_at (unit part) (suc i)) (set xs (suc i - 1) passed_over) xs) w.homes ∙ go (joined_at (unit part) (suc i)) refl
    where
      -- units before the last are followed by the same unit as before
      stays : (k : ℕ) → k < i → home_at (unit part) (suc (suc i)) k ≡ home_at (unit part) (suc i) k
      stays k h = rw (ends_before (unit part) (suc (suc i)) k (omega arith), ends_before (unit part) (suc i) k (omega arith))

      at_end : Bool → ℕ
      at_end s = cond s (home (unit part i).region (plant_at (unit part) i).good) passed_over

      last : (s : Bool) → joined_at (unit part) (suc i) ≡ s →
          home_at (unit part) (suc (suc i)) i ≡ cond s passed_over (home_at (unit part) (suc i) i)
      last true e = ap at_end (ends_before (unit part) (suc (suc i)) i (omega arith) ∙ ap not e)
      last false e = ap at_end (ends_before (unit part) (suc (suc i)) i (omega arith) ∙ ap not e ∙ sym (ends_last (unit part) i))

      all : joined_at (unit part) (suc i) ≡ false → (k : ℕ) → k < suc i → Dec (k < i) → home_at (unit part) (suc i) k ≡ home_at (unit part) (suc (suc i)) k
      all e k h (yes b) = sym (stays k b)
      all e k h (no b) = let f : k ≡ i = omega arith in rw f (sym (last false e))

      go : (s : Bool) → joined_at (unit part) (suc i) ≡ s →
          cond s (set (filled (suc i) (home_at (unit part) (suc i)) l₀.homes) (suc i - 1) passed_over)
          (filled (suc i) (home_at (unit part) (suc i)) l₀.homes) ≡ filled (suc i) (home_at (unit part) (suc (suc i))) l₀.homes
      go true e =
          let less : suc i - 1 ≡ i = omega arith in
          rw less (set_inside (suc i) i passed_over _ _ l₀.homes (omega arith) stays (last true e) (λ k a b. absurd (omega arith)))
      go false e = filled_ext (suc i) _ _ l₀.homes (λ k h. all e k h (dec_lt k i))

  -- ---- one unit more
  module _
      {m : ℕ} (t : Tally) {l : Lent} (w : Leaves part l₀ regions m l) (row : units_taken t ≡ m) (here : (unit part m).region < regions)
      (long : Long l₀ (suc m)) (one : OneRegion (unit part) m)
      (fits : (i : ℕ) → i < points → Within measure_limit (measure (the_settings part) (region part (unit part m).region) i)) where
    -- the unit's region holds its measures, and by them its points weigh what the rules say
    region_weighed : (i : ℕ) → i < points → weighed l (unit part m) i ≡ weight_of part m i
    region_weighed i h =
        ap weight_held (ap (λ (xs : List ℤ). get_or xs (points * (unit part m).region + i) (pos 0)) w.measures
        ∙ block_at points regions (measure_at part) l₀.measures (unit part m).region i (pos 0) h here (omega (arith, long.measures))
        ∙ in_block points (λ r. kept_measure (the_settings part) (region part r)) (unit part m).region i h)
        ∙ weight_read (the_settings part) (region part (unit part m).region) i (fits i h)

    good_is : L.good_with m (unit part m) l ≡ (plant_at (unit part) m).good
    good_is = ap (λ (s : Bool). s && good (unit part m)) (good_before_is m w long) ∙ sym (plant_good (unit part) m)

    deviation_is : (i : ℕ) → i < points → L.deviation_with m (unit part m) l i ≡ (plant_at (unit part) m).deviation i
    deviation_is i h =
        ap (λ (z : ℤ). z +ℤ deviation (unit part m) i) (deviation_before_is m w long i h) ∙ sym (plant_deviation (unit part) m i)

    -- the parts before and after are those of the plant
    part_same : (s s' : Bool) (e f : ℕ → ℤ) → s ≡ s' → ((i : ℕ) → i < points → e i ≡ f i) → (j : ℕ) → part_of s e j ≡ part_of s' f j
    part_same s s' e f g h j = ap₂ (λ (b : Bool) (z : ℤ). when b (wanted (side_of j) z)) g (h (j % points) (below j))
      where
        below : (j : ℕ) → j % points < points
        below j = omega arith

    abbrev before : ℕ → ℤ
    before = part_of (L.good_before m (unit part m) l) (L.deviation_before m (unit part m) l)

    abbrev after : ℕ → ℤ
    after = part_of (L.good_with m (unit part m) l) (L.deviation_with m (unit part m) l)

    sums_next : moved (unit part m).region before after l.sums ≡ filled sums_length (sum_at part (suc m)) l₀.sums
    unfolding sum adds
    sums_next =
        ap (moved (unit part m).region before after) w.sums
        ∙ moved_adds (unit part m).region before after (sum_at part m) l₀.sums here long.sums
        ∙ filled_ext sums_length _ (sum_at part (suc m)) l₀.sums
        (λ j h. ap₂ (λ (x y : ℤ). sum_at part m j +ℤ when (eqb (j / sums_each) (unit part m).region) (x -ℤ y))
        (part_same (L.good_with m (unit part m) l) (plant_at (unit part) m).good (L.deviation_with m (unit part m) l) (plant_at (unit part) m).deviation
        good_is deviation_is (j % sums_each))
        (part_same (L.good_before m (unit part m) l) (good_before (unit part) m) (L.deviation_before m (unit part m) l) (deviation_before (unit part) m)
        (good_before_is m w long) (deviation_before_is m w long) (j % sums_each)))

    deviations_next : deviations_with m (unit part m) l ≡ deviations_at (unit part) (suc m) l₀.deviations
    unfolding deviations_at
    deviations_next =
        ap (λ (xs : List ℤ). cond (eqb (unit part m).group 0) xs (filled points (L.deviation_with m (unit part m) l) xs)) w.deviations
        ∙ ap (λ (xs : List ℤ). cond (eqb (unit part m).group 0) (deviations_at (unit part) m l₀.deviations) xs)
        (filled_ext points _ _ (deviations_at (unit part) m l₀.deviations) deviation_is)

    row_here : (i : ℕ) → i < row_each → row_with m (unit part m) l (weighed l (unit part m)) i ≡ row_at part (row_each * m + i)
    row_here i h =
        row_next m w long (weighed l (unit part m)) one region_weighed i h
        ∙ sym (in_block row_each (λ j. row_of (weight_of part j) (plant_at (unit part) j)) m i h)

    stored : {A : Type 0} (g : ℕ → A) (xs ys : List A) (z : A) → ys ≡ filled m g xs → z ≡ g m → set ys m z ≡ filled (suc m) g xs
    stored g xs ys z e f = filled_store m g xs ys z e f ∙ ap (λ (n : ℕ). filled n g xs) (add-one m)

    home_here : home (unit part m).region (L.good_with m (unit part m) l) ≡ home_at (unit part) (suc m) m
    home_here = rw (ends_last (unit part) m) (ap (home (unit part m).region) good_is)

    pub unit_leaves : Leaves part l₀ regions (suc m) (unit_kept t (unit part m) l)
    unit_leaves =
        rw row
        (record {
          measures = w.measures;
          sums = sums_next;
          figures = w.figures;
          numbers = stored (λ i. (plant_at (unit part) i).number) l₀.numbers l.numbers _ w.numbers (number_is m w long);
          homes = stored (home_at (unit part) (suc m)) l₀.homes _ _
              (ap (λ (s : Bool). cond s (set l.homes (m - 1) passed_over) l.homes) (joined_is m w long) ∙ homes_next m w long) home_here;
          rows = ap (put_from (row_each * m) row_each _) w.rows ∙ block_next row_each m _ (row_at part) l₀.rows row_here;
          groups = stored (λ i. (unit part i).group) l₀.groups l.groups _ w.groups refl;
          deviations = deviations_next;
        })
