-- What a chain leaves, number by number, in the words of the rules: over the list of the units taken, all of them.
use mathlib.Core.Path.{◌≡◌, refl, sym, ◌∙◌, ap, ap₂}
use mathlib.Core.Bool.{Bool, true, false, cond}
use mathlib.Core.List.{List}
use Prim.Native.Nat.{ℕ, zero, suc, ◌+◌, ◌*◌, ◌-◌, ◌%◌, ◌≤◌, ◌<◌}
use native.Mathlib.Nat.{mul-le-mul_left}
use native.Mathlib.Omega.{arith}
use lib.Dec.{eqb}
use lib.IntN.{ℤ, pos, ◌-ℤ◌}
use lib.ListN.{length, get_or}
use borrow.Author.Tests.{lt-ltb, le-ltb}
use Rattle.integers.proofs.Pairs.{ring, v, ◌⊖◌}
use Rattle.integers.proofs.Sums.{sum_ext}
use Rattle.integers.specs.Sums.{sum, when}
use Rattle.integers.specs.Totals.{total}
use Rattle.integers.proofs.Totals.{total_those}
use Rattle.integers.specs.Fills.{filled}
use Rattle.integers.proofs.Fills.{filled_at}
use Rattle.rules.specs.declared.Direction.{Direction}
use Rattle.rules.specs.declared.Direction.TheVariants.{Raise, Lower}
use Rattle.rules.specs.Quantities.{points, regions, most_units}
use Rattle.rules.specs.Book.{Settings}
use Rattle.rules.specs.UnitRecord.{unit_record}
use Rattle.rules.specs.Plants.{Plant, plants, plants_in, good_plants}
use Rattle.laws.proofs.LimitsLaws.{in_group}
use Rattle.rules.specs.Performance.{wanted}
use Rattle.interval.specs.declared.Tally.{Tally}
use Rattle.interval.specs.Tally.{settings_of, before_units, units_taken}
use Rattle.interval.specs.Lent.{
  Lent,
  series_start,
  kept_measure,
  sums_each,
  sums_start,
  sum_place,
  side_of,
  part_of,
  figures_each,
  figures_of,
  row_each,
  in_row,
  row_of,
}
use Rattle.chain.specs.Long.{Long}
use Rattle.chain.proofs.ChainLaws.{in_block, block_at, listed_length}
use Rattle.chain.specs.PlantsAt.{joined_at, plant_at, good_before, deviation_before, home_at, OneRegion}
use Rattle.chain.proofs.PlantsAt.{plant_region, value_before, plants_moved}
use Rattle.chain.proofs.ChainSteps.{one_region}
use Rattle.chain.specs.Taken.{counts_in}
use Rattle.chain.proofs.Taken.{contents_is}
use Rattle.chain.specs.Chain.{
  Chain,
  Means,
  adds,
  regions_among,
  units_among,
  the_settings,
  region,
  unit,
  roster,
  measure_at,
  sum_at,
  figure_at,
  weight_of,
  row_at,
}
use Rattle.chain.proofs.ChainTheorem.{chain}

when_minus : (s : Bool) (x y : ℤ) → when s (x -ℤ y) ≡ when s x -ℤ when s y
when_minus true x y = refl
when_minus false x y = ring (v (pos 0)) (v (pos 0) ⊖ v (pos 0)) (omega arith)

wanted_none : (d : Direction) → wanted d (pos 0) ≡ pos 0
wanted_none Raise = refl
wanted_none Lower = refl

-- ---- a sum is over all good plants of its region
abbrev pub region_total : (ℕ → List ℕ) → Direction → ℕ → ℕ → ℕ → ℤ
region_total part d m r p = total (λ x. wanted d (x.deviation p)) (good_plants (plants_in (eqb r) (plants (roster part m))))

module _ (part : ℕ → List ℕ) (m : ℕ) (one : (i : ℕ) → i < m → OneRegion (unit part) i) where
  region_here : (k : ℕ) → k < m → (plant_at (unit part) k).region ≡ (unit part k).region
  region_here k h = plant_region (unit part) k (λ i b. one i (omega arith))

  -- a plant's part in the sums of a region
  abbrev part_in : Direction → ℕ → ℕ → Plant → ℤ
  part_in d r p x = when (eqb r x.region) (when x.good (wanted d (x.deviation p)))

  before_is : (d : Direction) (r p k : ℕ) → k < m →
      when (eqb r (unit part k).region) (when (good_before (unit part) k) (wanted d (deviation_before (unit part) k p))) ≡
      value_before (unit part) (part_in d r p) k
  before_is d r p zero h = ap (when (eqb r (unit part 0).region)) (wanted_none d) ∙ nothing (eqb r (unit part 0).region)
    where
      nothing : (s : Bool) → when s (pos 0) ≡ pos 0
      nothing true = refl
      nothing false = refl
  before_is d r p (suc i) h = go (joined_at (unit part) (suc i)) (λ e. region_here i (omega arith) ∙ one (suc i) h e) (eqb r (unit part (suc i)).region) refl
    where
      x : Plant
      x = plant_at (unit part) i

      go : (j : Bool) → (j ≡ true → x.region ≡ (unit part (suc i)).region) → (s : Bool) → eqb r (unit part (suc i)).region ≡ s →
          when s (when (cond j x.good true) (wanted d (when j (x.deviation p)))) ≡ when j (part_in d r p x)
      go true same s e = ap (λ (b : Bool). when b (when x.good (wanted d (x.deviation p)))) (sym (ap (eqb r) (same refl) ∙ e))
      go false same true e = wanted_none d
      go false same false e = refl

  pub side_total : (d : Direction) (r i p : ℕ) → i < sums_each → side_of i ≡ d → i % points ≡ p → sum_at part m (sums_start r + i) ≡ region_total part d m r p
  unfolding adds
  side_total d r i p h side point =
      in_block sums_each (λ r i. sum m (λ k. when (eqb r (unit part k).region) (part_of (plant_at (unit part) k).good (plant_at (unit part) k).deviation i
      -ℤ part_of (good_before (unit part) k) (deviation_before (unit part) k) i))) r i h
      ∙ sum_ext m _ (λ k. part_in d r p (plant_at (unit part) k) -ℤ value_before (unit part) (part_in d r p) k)
      (λ k b. rw (side, point) (when_minus (eqb r (unit part k).region) _ _
      ∙ ap₂ ◌-ℤ◌ (ap (λ (q : ℕ). when (eqb r q) (when (plant_at (unit part) k).good (wanted d ((plant_at (unit part) k).deviation p))))
      (sym (region_here k b))) (before_is d r p k b)))
      ∙ sym (total_those (λ x. x.good) (λ x. wanted d (x.deviation p)) (plants_in (eqb r) (plants (roster part m)))
      ∙ total_those (λ x. eqb r x.region) (λ x. when x.good (wanted d (x.deviation p))) (plants (roster part m))
      ∙ plants_moved (unit part) (part_in d r p) m)

  sum_is : (d : Direction) (r p : ℕ) → p < points → sum_at part m (sum_place d r p) ≡ region_total part d m r p
  sum_is Raise r p h = side_total Raise r p p (omega arith) (rw (lt-ltb p points h)) (omega arith)
  sum_is Lower r p h = side_total Lower r (points + p) p (omega arith) (rw (le-ltb (points + p) points (omega arith))) (omega arith)

-- where a unit stands among the records
pub unit_place : (u n i : ℕ) → i < units_among u n → (before_units + i < n) × (before_units + i < before_units + u)
unit_place u n i h = (omega arith, omega arith)

module _ {head : List ℕ} {part : ℕ → List ℕ} {l₀ : Lent} {n : ℕ} {t : Tally} {l : Lent} (d : Chain head part l₀ n t l) where
  w : Means head part l₀ n t l
  w = chain d

  abbrev many : ℕ
  many = units_among (counts_in head).units n

  -- units that join one another are in one region, as the format asks
  pub one_regions : (i : ℕ) → i < units_among (counts_in head).units n → OneRegion (unit part) i
  one_regions i h =
      let at = unit_place (counts_in head).units n i h in
      let less : before_units + i - before_units ≡ i = omega arith in
      let taken = (w.taken_each (before_units + i) at.0).as_unit (omega arith) at.1 in
      one_region (unit part) i (rw less at (in_group _ (unit_record _ (part (before_units + i))) (unit part i) taken).1)

  -- the number of units taken is the number of records added
  pub units_are_counted : n ≤ before_units + (counts_in head).units → units_taken t ≡ length (roster part many)
  units_are_counted h =
      let m : many ≡ n - before_units = omega arith in
      ap (λ (k : ℕ). k - before_units) w.records ∙ sym m ∙ sym (listed_length 0 many (unit part))

  -- and a roster has at most 512
  pub roster_few : length (roster part many) ≤ most_units
  roster_few = omega (arith, listed_length 0 many (unit part), (contents_is head (counts_in head) w.table).1.units)

  -- ---- a region whose frequency record was taken
  module _ (r : ℕ) (h : r < regions_among n) where
    inside : Long l₀ many
    inside = w.long (omega arith)

    region_at : (each : ℕ) (G : ℕ → ℤ) (xs ys : List ℤ) → ys ≡ filled (each * regions_among n) G xs → each * regions ≤ length xs → (i : ℕ) → i < each →
        get_or ys (each * r + i) (pos 0) ≡ G (each * r + i)
    region_at each G xs ys e long i b =
        let few : suc r ≤ regions = omega arith in
        ap (λ (zs : List ℤ). get_or zs (each * r + i) (pos 0)) e
        ∙ block_at each (regions_among n) G xs r i (pos 0) b h (omega (arith, mul-le-mul_left each few))

    pub measures_are : (i : ℕ) → i < points → get_or l.measures (series_start r + i) (pos 0) ≡ kept_measure (the_settings part) (region part r) i
    measures_are i b =
        region_at points (measure_at part) l₀.measures l.measures w.lent.measures inside.measures i b
        ∙ in_block points (λ r. kept_measure (the_settings part) (region part r)) r i b

    pub sums_at : (i : ℕ) → i < sums_each → get_or l.sums (sums_start r + i) (pos 0) ≡ sum_at part many (sums_start r + i)
    sums_at = region_at sums_each (sum_at part many) l₀.sums l.sums w.lent.sums inside.sums

    -- the sums of positive and of negative deviations are over all good plants of the region
    pub sums_are : (e : Direction) (p : ℕ) → p < points → get_or l.sums (sum_place e r p) (pos 0) ≡ region_total part e many r p
    sums_are Raise p b = sums_at p (omega arith) ∙ sum_is part many one_regions Raise r p b
    sums_are Lower p b = sums_at (points + p) (omega arith) ∙ sum_is part many one_regions Lower r p b

    pub figures_are : (i : ℕ) → i < figures_each → get_or l.figures (figures_each * r + i) (pos 0) ≡ figures_of (the_settings part) (region part r) i
    figures_are i b =
        region_at figures_each (figure_at part) l₀.figures l.figures w.lent.figures inside.figures i b
        ∙ in_block figures_each (λ r. figures_of (the_settings part) (region part r)) r i b

  -- ---- a unit that was taken
  module _ (j : ℕ) (h : j < many) where
    there : Long l₀ many
    there = w.long (omega arith)

    pub numbers_are : get_or l.numbers j 0 ≡ (plant_at (unit part) j).number
    numbers_are = ap (λ (zs : List ℕ). get_or zs j 0) w.lent.numbers ∙ filled_at many _ l₀.numbers j 0 h (omega (arith, there.numbers))

    pub homes_are : get_or l.homes j 0 ≡ home_at (unit part) (units_among (counts_in head).units n) j
    homes_are = ap (λ (zs : List ℕ). get_or zs j 0) w.lent.homes ∙ filled_at many _ l₀.homes j 0 h (omega (arith, there.homes))

    pub rows_are : (i : ℕ) → i < row_each → in_row l.rows j i ≡ row_of (weight_of part j) (plant_at (unit part) j) i
    rows_are i b =
        ap (λ (zs : List ℤ). get_or zs (row_each * j + i) (pos 0)) w.lent.rows
        ∙ block_at row_each many (row_at part) l₀.rows j i (pos 0) b h (omega (arith, there.rows))
        ∙ in_block row_each (λ j. row_of (weight_of part j) (plant_at (unit part) j)) j i b

-- ---- what a chain leaves is fixed by what was taken and what was lent: neither a refused call nor anything else shows
tally_of : ℕ → ℕ → ℕ → ℕ → Settings → Tally
tally_of us qs rs ls s = record {
  units = us;
  requirements = qs;
  records = rs;
  least = ls;
  smoothing = s.smoothing;
  limit = s.limit;
  percent = s.percent;
  interval = s.interval;
}

same_tally : (t t' : Tally) → t.units ≡ t'.units → t.requirements ≡ t'.requirements → t.records ≡ t'.records → t.least ≡ t'.least →
    settings_of t ≡ settings_of t' → t ≡ t'
unfolding tally_of
same_tally t t' us qs rs ls s =
    let e : tally_of t.units t.requirements t.records t.least (settings_of t) ≡ tally_of t'.units t'.requirements t'.records t'.least
    (settings_of t') = cc in
    e

lent_of : List ℤ → List ℤ → List ℤ → List ℕ → List ℕ → List ℤ → List ℕ → List ℤ → Lent
lent_of ms ss gs us hs rs ks ds =
    record { measures = ms; sums = ss; figures = gs; numbers = us; homes = hs; rows = rs; groups = ks; deviations = ds }

pub same_lent : (l l' : Lent) → l.measures ≡ l'.measures → l.sums ≡ l'.sums → l.figures ≡ l'.figures → l.numbers ≡ l'.numbers →
    l.homes ≡ l'.homes → l.rows ≡ l'.rows → l.groups ≡ l'.groups → l.deviations ≡ l'.deviations → l ≡ l'
unfolding lent_of
same_lent l l' ms ss gs us hs rs ks ds =
    let e : lent_of l.measures l.sums l.figures l.numbers l.homes l.rows l.groups l.deviations ≡
    lent_of l'.measures l'.sums l'.figures l'.numbers l'.homes l'.rows l'.groups l'.deviations = cc in
    e

module _ {head : List ℕ} {part : ℕ → List ℕ} {l₀ : Lent} where
  pub chain_only : {n : ℕ} {t t' : Tally} {l l' : Lent} → Chain head part l₀ n t l → Chain head part l₀ n t' l' → (t ≡ t') × (l ≡ l')
  chain_only {n} {t} {t'} {l} {l'} a b =
      let v = chain a in
      let w = chain b in
      let x = v.lent in
      let y = w.lent in (
        same_tally t t' (v.units ∙ sym w.units) (v.requirements ∙ sym w.requirements) (v.records ∙ sym w.records) (v.least ∙ sym w.least)
            (kept n v w),
        same_lent l l' (x.measures ∙ sym y.measures) (x.sums ∙ sym y.sums) (x.figures ∙ sym y.figures) (x.numbers ∙ sym y.numbers)
            (x.homes ∙ sym y.homes) (x.rows ∙ sym y.rows) (x.groups ∙ sym y.groups) (x.deviations ∙ sym y.deviations),
      )
    where
      kept : (n : ℕ) {t t' : Tally} {l l' : Lent} → Means head part l₀ n t l → Means head part l₀ n t' l' → settings_of t ≡ settings_of t'
      kept zero v w = v.before refl ∙ sym (w.before refl)
      kept (suc n) v w = v.kept (omega arith) ∙ sym (w.kept (omega arith))
