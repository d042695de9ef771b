-- What a chain leaves passes test 11 of the next call, so that the next record is judged by its bytes alone, wherever the lent lists are long enough.
use mathlib.Core.Path.{◌≡◌, refl, sym, ◌∙◌, ap}
use mathlib.Core.Bool.{Bool, true, false, cond, ◌&&◌, ◌||◌, false≢true}
use mathlib.Core.List.{List, [], ◌∷◌}
use Prim.Native.Nat.{ℕ, zero, suc, ◌+◌, ◌*◌, ◌-◌, ◌%◌, ◌≤◌, ◌<◌}
use native.Mathlib.Nat.{add-zero, mul-le-mul_left}
use native.Mathlib.Omega.{arith}
use lib.Dec.{eqb, leb, ltb}
use lib.IntN.{ℤ, pos, nat_abs}
use lib.ListN.{get_or}
use borrow.Author.Tests.{le-leb, lt-ltb, eq-eqb, ltb-true}
use Rattle.integers.specs.Bounds.{Within}
use Rattle.integers.proofs.Bounds.{abs_add, within_wider}
use Rattle.integers.specs.Sums.{when}
use Rattle.integers.proofs.Sums.{every_all, one_≤}
use Rattle.integers.specs.Totals.{total, totalℕ, All}
use Rattle.integers.proofs.Totals.{total_those, totalℕ_times}
use Rattle.rules.specs.Quantities.{points, regions, most_units, most_requirements, measure_limit, deviation_limit}
use Rattle.rules.specs.Bytes.{number_at}
use Rattle.laws.proofs.BytesLaws.{number_below}
use Rattle.rules.specs.declared.Refusal.TheVariants.{WrongGroup}
use Rattle.rules.specs.Refusals.{Reply, taken, refused, unless, ◌>>=◌}
use Rattle.rules.specs.Book.{Settings, Unit}
use Rattle.rules.specs.SettingsRecord.{settings_fine, settings}
use Rattle.rules.specs.FrequencyRecord.{frequency_record}
use Rattle.rules.specs.UnitRecord.{unit_record}
use Rattle.rules.specs.RequirementRecord.{requirement_record}
use Rattle.rules.specs.Groups.{same_group, group_fine, in_its_group}
use Rattle.rules.specs.Plants.{plants, plants_in}
use Rattle.rules.specs.Performance.{wanted}
use Rattle.laws.proofs.Limits.{UnitFits, PlantFits}
use Rattle.laws.proofs.LimitsLaws.{in_group, unit_fits}
use Rattle.laws.proofs.PlantsLaws.{plants_many, plants_fit}
use Rattle.laws.proofs.PerformanceLaws.{weight_within, wanted_within}
use Rattle.interval.specs.declared.Tally.{Tally}
use Rattle.interval.specs.Tally.{before_units, units_end, book_end, units_taken, in_range, settings_kept}
use Rattle.interval.specs.Lent.{
  Lent,
  series_start,
  measure_held,
  sums_each,
  sums_start,
  side_of,
  figures_each,
  home,
  passed_over,
  joins,
  row_fine,
  group_fits,
  of_interval,
  each_sized,
  each_measured,
  named_region,
  named_group,
  series_in_range,
  plant_in_range,
}
use Rattle.interval.proofs.HeldLaws.{measure_read}
use Rattle.interval.specs.Calls.{settings_reply, frequency_reply, in_lent_group, unit_reply, requirement_reply}
use Rattle.chain.specs.Long.{Long}
use Rattle.chain.proofs.Long.{shorter, regions_pass, long_passes}
use Rattle.chain.proofs.ChainLaws.{or_true, of_interval_all, listed_length, all_listed}
use Rattle.chain.specs.PlantsAt.{plant_at, units_before}
use Rattle.chain.proofs.PlantsAt.{plant_fits, plant_few}
use Rattle.chain.proofs.RowFine.{row_passes}
use Rattle.chain.specs.Taken.{counts_in, CountsFit, unit_behind}
use Rattle.chain.proofs.Taken.{contents_is, settings_is}
use Rattle.chain.specs.Chain.{
  Chain,
  Leaves,
  Means,
  regions_among,
  units_among,
  the_settings,
  region,
  unit,
  roster,
  least_at,
  sum_at,
  weight_of,
}
use Rattle.chain.proofs.ChainSteps.{still_long, some_group, joins_is, home_kept, row_kept, deviations_kept, group_judged}
use Rattle.chain.proofs.ChainTheorem.{measure_fits, chain}
use Rattle.chain.proofs.ChainValues.{unit_place, one_regions, side_total, measures_are, sums_at, figures_are}

-- ---- sizes
total_size : {A : Type 0} (P : A → Type 0) (f : A → ℤ) (g : A → ℕ) → ((x : A) → P x → nat_abs (f x) ≤ g x) → (xs : List A) → All P xs →
    nat_abs (total f xs) ≤ totalℕ g xs
unfolding total totalℕ All
total_size P f g h [] a = omega arith
total_size P f g h (x ∷ xs) a = omega (arith, abs_add (f x) (total f xs), h x a.0, total_size P f g h xs a.1)

sized_all : (limit start n : ℕ) (xs : List ℤ) → ((i : ℕ) → i < n → Within limit (get_or xs (start + i) (pos 0))) → each_sized limit start n xs ≡ true
unfolding each_sized
sized_all limit start n xs h = every_all n _ (λ i b. le-leb _ limit (h i b).size)

measured_all : (start : ℕ) (ms : List ℤ) → ((i : ℕ) → i < points → Within measure_limit (measure_held (get_or ms (start + i) (pos 0)))) →
    each_measured start ms ≡ true
unfolding each_measured
measured_all start ms h = every_all points _ (λ i b. le-leb _ measure_limit (h i b).size)

module _ {head : List ℕ} {part : ℕ → List ℕ} {l₀ : Lent} {n : ℕ} {t : Tally} {l : Lent} (d : Chain head part l₀ n t l) where
  w : Means head part l₀ n t l
  w = chain d

  -- ---- the records taken are within their limits
  pub unit_within : (i : ℕ) → i < units_among (counts_in head).units n → UnitFits (unit part i)
  unit_within i h =
      let at = unit_place (counts_in head).units n i h in
      unit_fits _ (part (before_units + i)) (unit part i)
      (in_group _ (unit_record _ (part (before_units + i))) (unit part i) ((w.taken_each (before_units + i) at.0).as_unit (omega arith) at.1)).0

  abbrev many : ℕ
  many = units_among (counts_in head).units n

  units_fit : All UnitFits (roster part many)
  units_fit = all_listed UnitFits many (unit part) unit_within

  -- a region's sum is a total over plants, of each of which it has no more than a unit's limit for each of its units
  sum_fits : (r i : ℕ) → i < sums_each → Within (deviation_limit * units_taken t) (sum_at part many (sums_start r + i))
  sum_fits r i h =
      rw (side_total part many (one_regions d) (side_of i) r i (i % points) h refl refl)
      (record {
        size =
            omega (
              arith,
              wide (counts_in head).units n t.records w.records,
              ap nat_abs (total_those (λ x. x.good) (λ x. wanted (side_of i) (x.deviation (i % points))) (plants_in (eqb r) (plants (roster part many)))
                  ∙ total_those (λ x. eqb r x.region) (λ x. when x.good (wanted (side_of i) (x.deviation (i % points)))) (plants (roster part many))),
              total_size PlantFits (λ x. when (eqb r x.region) (when x.good (wanted (side_of i) (x.deviation (i % points)))))
                  (λ x. x.units * deviation_limit)
                  (λ x f. part_fits (x.units * deviation_limit) (eqb r x.region) x.good _ (wanted_within (side_of i) (x.deviation (i % points)) (f.deviation (i % points) (below i))).size)
                  (plants (roster part many)) (plants_fit (roster part many) units_fit),
              totalℕ_times (λ x. x.units) deviation_limit (plants (roster part many)),
              plants_many (roster part many),
              listed_length 0 many (unit part),
            );
      })
    where
      below : (i : ℕ) → i % points < points
      below i = omega arith

      wide : (u n k : ℕ) → k ≡ n → units_among u n * deviation_limit ≤ deviation_limit * (k - before_units)
      wide u n k e = omega arith

      part_fits : (k : ℕ) (s t : Bool) (z : ℤ) → nat_abs z ≤ k → nat_abs (when s (when t z)) ≤ k
      part_fits k true true z l = l
      part_fits k true false z l = omega arith
      part_fits k false t z l = omega arith

  -- ---- test 11 for lent numbers
  -- once all regions are in, their figures are of the tally's interval
  pub chain_of_interval : before_units ≤ n → of_interval t.interval l.figures ≡ true
  chain_of_interval first =
      of_interval_all t.interval l.figures (λ r h.
      ap (λ (i : ℕ). get_or l.figures i (pos 0)) (sym (add-zero (figures_each * r)))
      ∙ figures_are d r (omega arith) 0 (omega arith)
      ∙ ap (λ (s : Settings). pos s.interval) (sym (w.kept (omega arith))))

  -- measures and sums, of any region that a unit may name
  pub chain_series_in_range : before_units ≤ n → (r : ℕ) → series_in_range r (units_taken t) l ≡ true
  unfolding series_in_range
  chain_series_in_range first r = go (ltb r regions) refl
    where
      among : (n r : ℕ) → before_units ≤ n → r < regions → r < regions_among n
      among n r f h = omega arith

      go : (b : Bool) → ltb r regions ≡ b → cond b (each_measured (series_start r) l.measures
          && each_sized (deviation_limit * units_taken t) (sums_start r) sums_each l.sums) true ≡ true
      go false e = refl
      go true e =
          let h = among n r first (ltb-true r regions e) in
          rw (
            measured_all (series_start r) l.measures (λ i b.
                let f = measure_fits head part l₀ w r h i b in
                rw (measures_are d r h i b, measure_read (the_settings part) (region part r) i f) f),
            sized_all (deviation_limit * units_taken t) (sums_start r) sums_each l.sums (λ i b. rw (sums_at d r h i b) (sum_fits r i b)),
          )

  -- what is kept of the plant that a unit joins
  plant_passes : before_units ≤ n → (g m : ℕ) → units_taken t ≡ m → many ≡ m → Long l₀ (suc m) → (s : Bool) → joins g m l ≡ s →
      cond s (ltb (get_or l.homes (m - 1) 0) passed_over
      && (row_fine m (m - 1) l.rows && each_sized (deviation_limit * m) 0 points l.deviations)) true ≡ true
  plant_passes first g m at e long false j = refl
  plant_passes first g zero at e long true j = absurd (false≢true j)
  plant_passes first g (suc i) at e long true j =
      let less : suc i - 1 ≡ i = omega arith in
      let lent : Leaves part l₀ regions (suc i) l = rw (regions_there n first, e) at w.lent in
      let inside : i < many = omega (arith, e) in
      let fits = plant_fits (unit part) i (λ k h. unit_within k (omega arith)) in
      let region_in : (unit part i).region < regions = (unit_within i inside).region in
      let same : same_group (unit part i).group g ≡ true = sym (joins_is i g lent long) ∙ j in
      let home_in : ltb (get_or l.homes i 0) passed_over ≡ true =
      rw (home_kept lent long) (lt-ltb (home (unit part i).region (plant_at (unit part) i).good) passed_over
      (omega (arith, region_in, one_≤ (plant_at (unit part) i).good))) in
      rw (
        less,
        home_in,
        row_passes (suc i) i l.rows (weight_of part i) (plant_at (unit part) i) fits (plant_few (unit part) i)
            (λ t b. weight_within (the_settings part) (region part (unit part i).region) t
            (measure_fits head part l₀ w (unit part i).region (region_among n (unit part i).region first region_in) t b))
            (row_kept lent long),
        sized_all (deviation_limit * suc i) 0 points l.deviations (λ t b.
            let zeroth : 0 + t ≡ t = omega arith in
            rw (zeroth, deviations_kept lent long (some_group (unit part i).group g same) t b)
            (within_wider (omega (arith, mul-le-mul_left deviation_limit (plant_few (unit part) i))) (fits.deviation t b))),
      )
    where
      regions_there : (n : ℕ) → before_units ≤ n → regions_among n ≡ regions
      regions_there n h = omega arith

      region_among : (n r : ℕ) → before_units ≤ n → r < regions → r < regions_among n
      region_among n r f h = omega arith

  pub chain_plant_in_range : before_units ≤ n → n < before_units + (counts_in head).units → Long l₀ (counts_in head).units → (g : ℕ) →
      plant_in_range g (units_taken t) l ≡ true
  unfolding plant_in_range
  chain_plant_in_range first last long g =
      plant_passes first g (units_taken t) refl (here (counts_in head).units n t.records w.records last)
      (shorter (next (counts_in head).units n t.records w.records first last) long) (joins g (units_taken t) l) refl
    where
      here : (u n k : ℕ) → k ≡ n → n < before_units + u → units_among u n ≡ k - before_units
      here u n k e h = omega arith

      next : (u n k : ℕ) → k ≡ n → before_units ≤ n → n < before_units + u → suc (k - before_units) ≤ u
      next u n k e f h = omega arith

  groups_judged : before_units ≤ n → n < before_units + (counts_in head).units → Long l₀ (counts_in head).units → (u : Unit) →
      group_fits (units_taken t) u l ≡ group_fine (units_before (unit part) (n - before_units)) u
  groups_judged first last long u =
      let at : units_taken t ≡ n - before_units = ap (λ (m : ℕ). m - before_units) w.records in
      let lent : Leaves part l₀ regions (n - before_units) l = rw (all_regions n first, here (counts_in head).units n last) at w.lent in
      ap (λ (m : ℕ). group_fits m u l) at
      ∙ group_judged (n - before_units) lent (shorter (next (counts_in head).units n first last) long) u
    where
      all_regions : (n : ℕ) → before_units ≤ n → regions_among n ≡ regions
      all_regions n h = omega arith

      here : (u n : ℕ) → n < before_units + u → units_among u n ≡ n - before_units
      here u n h = omega arith

      next : (u n : ℕ) → before_units ≤ n → n < before_units + u → suc (n - before_units) ≤ u
      next u n f h = omega arith

  -- ---- test 11 for the tally, where what was handed in were bytes
  module _ (bytes : (m i : ℕ) → m < n → get_or (part m) i 0 < 256) where
    fits : CountsFit (counts_in head)
    fits = (contents_is head (counts_in head) w.table).1

    least_fits : (m : ℕ) → m ≡ n → least_at part (counts_in head).units m ≤ 65_536
    unfolding least_at
    least_fits zero e = omega arith
    least_fits (suc m) e = go (ltb m before_units || eqb (m + 1) (before_units + (counts_in head).units))
        (number_below 2 0 (part m) (λ i. bytes m i (omega arith)))
      where
        go : (b : Bool) → number_at 2 0 (part m) < 65_536 → cond b 0 (number_at 2 0 (part m) + 1) ≤ 65_536
        go true h = omega arith
        go false h = omega arith

    settings_stay : (m : ℕ) → m ≡ n → settings_kept t ≡ true
    settings_stay zero e = rw (eq-eqb t.records 0 (w.records ∙ sym e))
    settings_stay (suc m) e =
        let fine = (settings_is (part 0) (the_settings part) ((w.taken_each 0 (omega arith)).as_settings refl)).1 in
        ap (λ (b : Bool). eqb t.records 0 || b) (ap settings_fine (w.kept (omega arith)) ∙ fine) ∙ or_true (eqb t.records 0)

    pub chain_in_range : in_range t ≡ true
    unfolding in_range
    chain_in_range =
        let units : leb t.units most_units ≡ true = le-leb t.units most_units (omega (arith, w.units, fits.units)) in
        let some : leb 1 t.requirements ≡ true = le-leb 1 t.requirements (omega (arith, w.requirements, fits.some)) in
        let requirements : leb t.requirements most_requirements ≡ true = le-leb t.requirements most_requirements
        (omega (arith, w.requirements, fits.requirements)) in
        let records : leb t.records (book_end t) ≡ true = le-leb t.records (book_end t) (omega (arith, w.records, w.units, w.requirements, w.most)) in
        let least : leb t.least 65_536 ≡ true = le-leb t.least 65_536 (omega (arith, w.least, least_fits n refl)) in
        rw (units, some, requirements, records, least, settings_stay n refl)

    -- ---- the next record is judged by its bytes alone
    pub settings_judged : n ≡ 0 → (p : List ℕ) → settings_reply t p ≡ settings p
    unfolding settings_reply
    settings_judged e p = rw (chain_in_range, eq-eqb t.records 0 (w.records ∙ e))

    pub frequency_judged : 1 ≤ n → n < before_units → Long l₀ (counts_in head).units → (p : List ℕ) → frequency_reply t p l ≡ frequency_record (n - 1) p
    unfolding frequency_reply
    frequency_judged first last long p =
        let a : leb 1 t.records ≡ true = le-leb 1 t.records (omega (arith, w.records)) in
        let b : ltb t.records before_units ≡ true = lt-ltb t.records before_units (omega (arith, w.records)) in
        rw (chain_in_range, a, b, regions_pass (still_long w.lent long)) (ap (λ (m : ℕ). frequency_record (m - 1) p) w.records)

    pub unit_judged : before_units ≤ n → n < before_units + (counts_in head).units → Long l₀ (counts_in head).units → (p : List ℕ) →
        unit_reply t p l ≡ unit_behind (units_before (unit part) (n - before_units)) (least_at part (counts_in head).units n) p
    unfolding unit_reply
    unit_judged first last long p =
        let a : leb before_units t.records ≡ true = le-leb before_units t.records (omega (arith, w.records)) in
        let b : ltb t.records (units_end t) ≡ true = lt-ltb t.records (units_end t) (omega (arith, w.records, w.units)) in
        let next : units_taken t + 1 ≤ (counts_in head).units = row (counts_in head).units n t.records w.records first last in
        rw (
          chain_in_range,
          a,
          b,
          long_passes (omega arith) (shorter next (still_long w.lent long)),
          chain_of_interval first,
          chain_series_in_range first (named_region p),
          chain_plant_in_range first last long (named_group p),
        )
        (ap (λ (m : ℕ). unit_record m p >>= in_lent_group (units_taken t) l) w.least
        ∙ judged (unit_record (least_at part (counts_in head).units n) p))
      where
        -- the groups before are those that are kept
        judged : (x : Reply Unit) → (x >>= in_lent_group (units_taken t) l) ≡ (x >>= in_its_group (units_before (unit part) (n - before_units)))
        judged (refused why) = refl
        judged (taken u) = ap (λ (s : Bool). unless s WrongGroup (taken u)) (groups u)
          where
            groups : (u : Unit) → group_fits (units_taken t) u l ≡ group_fine (units_before (unit part) (n - before_units)) u
            groups u = groups_judged first last long u

        row : (u n k : ℕ) → k ≡ n → before_units ≤ n → n < before_units + u → k - before_units + 1 ≤ u
        row u n k e f h = omega arith

    pub requirement_judged : before_units + (counts_in head).units ≤ n → n < before_units + (counts_in head).units + (counts_in head).requirements → (p : List ℕ) →
        requirement_reply t p ≡ requirement_record (least_at part (counts_in head).units n)
        (eqb (n + 1) (before_units + (counts_in head).units + (counts_in head).requirements)) p
    unfolding requirement_reply
    requirement_judged first last p =
        let a : leb (units_end t) t.records ≡ true = le-leb (units_end t) t.records (omega (arith, w.records, w.units)) in
        let b : ltb t.records (book_end t) ≡ true = lt-ltb t.records (book_end t) (omega (arith, w.records, w.units, w.requirements)) in
        rw (chain_in_range, a, b, w.least, w.records, w.units, w.requirements)
