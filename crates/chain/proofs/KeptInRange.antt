-- What is kept of a book within its limits is in range, so no call that reads it refuses it with 11. Each plant stands in one region, so the sizes of the five
-- regions' sums together are at most a unit's limit for each unit.
use mathlib.Core.Path.{◌≡◌, refl, sym, ◌∙◌, ap}
use mathlib.Core.Bool.{Bool, true, false, cond, not, ◌&&◌, false≢true}
use mathlib.Core.List.{List, [], ◌∷◌}
use Prim.Native.Nat.{ℕ, zero, suc, ◌+◌, ◌*◌, ◌≤◌, ◌<◌}
use native.Mathlib.Nat.{add-zero, one-mul, mul-le-mul_right}
use native.Mathlib.Omega.{arith}
use lib.Dec.{eqb, leb}
use lib.IntN.{ℤ, pos, nat_abs}
use lib.ListN.{length, get_or}
use borrow.Author.Tests.{le-leb, ne_eqb}
use Rattle.integers.proofs.Bounds.{abs_add}
use Rattle.integers.specs.Sums.{one, sumℕ, every, when}
use Rattle.integers.proofs.Sums.{one_≤, sumℕ_zero, sumℕ_≤, sumℕ_plus, sumℕ_times, count_one, every_all}
use Rattle.integers.specs.Totals.{total, totalℕ, those, All}
use Rattle.integers.proofs.Totals.{total_those, totalℕ_times, all_at}
use Rattle.rules.specs.declared.Direction.{Direction}
use Rattle.rules.specs.declared.Direction.TheVariants.{Raise, Lower}
use Rattle.rules.specs.Quantities.{points, regions, measure_limit, amount_limit, deviation_limit, residual_default_limit}
use Rattle.rules.specs.Book.{Settings, Book, regionOf}
use Rattle.rules.specs.Fields.{default_fine}
use Rattle.rules.specs.UnitRecord.{unit_in}
use Rattle.laws.proofs.Limits.{UnitFits, PlantFits, BookFits}
use Rattle.rules.specs.Reliability.{reliable}
use Rattle.rules.specs.Plants.{Plant, plants}
use Rattle.laws.proofs.PlantsLaws.{plants_many, plants_fit}
use Rattle.rules.specs.Performance.{weight_in, wanted, plants_of}
use Rattle.laws.proofs.PerformanceLaws.{wanted_within}
use Rattle.laws.proofs.MembersLaws.{measure_in_within, weight_in_within}
use Rattle.interval.specs.declared.Tally.{Tally}
use Rattle.interval.specs.Lent.{Lent, sum_place, figures_each, figures_of, home, passed_over, six, of_interval}
use Rattle.interval.proofs.HeldLaws.{measure_read}
use Rattle.kept.specs.Kept.{figure}
use Rattle.chain.proofs.ChainLaws.{of_interval_all}
use Rattle.chain.specs.PlantsAt.{joined_at, plant_at, ends}
use Rattle.chain.proofs.PlantsAt.{ends_before, next_has, plant_fits}
use Rattle.chain.proofs.RowFine.{six_fine, row_passes}
use Rattle.chain.specs.Keeps.{Keeps, roster_unit}
use Rattle.kept.specs.Range.{measures_fine, sums_fine, series_fine, from_0, figures_fine, units_at, unit_fine, rows_fine, kept_fine}

-- ---- each element is in one class, so the sizes of the classes' totals together are at most the limits of all elements
module _ {A : Type 0} (P : A → Type 0) (k : A → ℕ) (f : A → ℤ) (fits : (x : A) → P x → nat_abs (f x) ≤ k x) (n : ℕ) (class : A → ℕ) where
  pub classes_size : (xs : List A) → All P xs → sumℕ n (λ r. nat_abs (total f (those (λ x. eqb r (class x)) xs))) ≤ totalℕ k xs
  unfolding total totalℕ those All
  classes_size [] a = omega (arith, sumℕ_zero n)
  classes_size (x ∷ xs) a =
      omega (
        arith,
        sumℕ_≤ n _ (λ r. one (eqb r (class x)) * k x + nat_abs (total f (those (λ x. eqb r (class x)) xs)))
            (λ r l. more (those (λ x. eqb r (class x)) xs) (eqb r (class x))),
        sumℕ_plus n (λ r. one (eqb r (class x)) * k x) (λ r. nat_abs (total f (those (λ x. eqb r (class x)) xs))),
        sumℕ_times n (k x) (λ r. one (eqb r (class x))),
        mul-le-mul_right (k x) (count_one n (class x)),
        one-mul (k x),
        classes_size xs a.1,
      )
    where
      more : (ys : List A) (t : Bool) → nat_abs (total f (cond t (x ∷ ys) ys)) ≤ one t * k x + nat_abs (total f ys)
      more ys true = omega (arith, abs_add (f x) (total f ys), fits x a.0, one-mul (k x))
      more ys false = omega arith

-- ---- a field within its limit passes its test
pub passes_both : (s t : Bool) → s ≡ true → t ≡ true → s && t ≡ true
passes_both true t e f = f
passes_both false t e f = absurd (false≢true e)

natural_fine : (limit n : ℕ) → n ≤ limit → from_0 limit (pos n) ≡ true
natural_fine limit n h = passes_both (leb 0 n) (leb n limit) (le-leb 0 n (omega arith)) (le-leb n limit h)

module _ (t : Tally) (l : Lent) (b : Book) (h : Keeps t l b) (f : BookFits b) where
  -- ---- at a point
  measures_pass : (p : ℕ) → p < points → measures_fine l p ≡ true
  measures_pass p m = every_all regions _ (λ r i.
      let fits = measure_in_within b f r i p m in
      rw (h.measures r p i m, measure_read b.settings (regionOf b r) p fits) (le-leb _ measure_limit fits.size))

  sums_pass : (d : Direction) (p : ℕ) → p < points → sums_fine (deviation_limit * t.units) l d p ≡ true
  sums_pass d p m =
      le-leb (sumℕ regions (λ r. nat_abs (get_or l.sums (sum_place d r p) (pos 0)))) (deviation_limit * t.units)
      (omega (
        arith,
        sumℕ_≤ regions (λ r. nat_abs (get_or l.sums (sum_place d r p) (pos 0))) (λ r. nat_abs (total part (plants_of b r)))
            (λ r i. same (ap nat_abs (h.sums d r p i m ∙ total_those (λ x. x.good) (λ x. wanted d (x.deviation p)) (plants_of b r)))),
        classes_size PlantFits (λ x. x.units * deviation_limit) part (λ x g. within (x.units * deviation_limit) x.good (wanted d (x.deviation p))
            (wanted_within d (x.deviation p) (g.deviation p m)).size) regions (λ x. x.region) (plants b.roster) (plants_fit b.roster f.roster),
        totalℕ_times (λ x. x.units) deviation_limit (plants b.roster),
        plants_many b.roster,
        h.units,
      ))
    where
      part : Plant → ℤ
      part x = when x.good (wanted d (x.deviation p))

      same : {x y : ℕ} → x ≡ y → x ≤ y
      same e = omega arith

      within : (k : ℕ) (s : Bool) (z : ℤ) → nat_abs z ≤ k → nat_abs (when s z) ≤ k
      within k true z l = l
      within k false z l = omega arith

  series_pass : series_fine t l ≡ true
  unfolding series_fine
  series_pass = every_all points _ (λ p m. rw (measures_pass p m, sums_pass Raise p m, sums_pass Lower p m))

  -- ---- of a region
  own_figures : of_interval t.interval l.figures ≡ true
  own_figures =
      of_interval_all t.interval l.figures (λ r i.
      ap (λ (j : ℕ). get_or l.figures j (pos 0)) (sym (add-zero (figures_each * r)))
      ∙ h.figures r 0 i (omega arith)
      ∙ ap (λ (s : Settings). pos s.interval) (sym h.settings))

  region_passes : (r : ℕ) → r < regions → (from_0 amount_limit (figure l r 1) ≡ true) × (from_0 1 (figure l r 2) ≡ true) ×
      (from_0 1 (figure l r 3) ≡ true) × (every 6 (λ i. default_fine residual_default_limit (figure l r (4 + i))) ≡ true)
  region_passes r i = (
    rw (h.figures r 1 i (omega arith)) (natural_fine amount_limit (regionOf b r).generation (f.region r i).generation),
    rw (h.figures r 2 i (omega arith)) (natural_fine 1 _ (one_≤ (reliable b.settings (regionOf b r) Raise))),
    rw (h.figures r 3 i (omega arith)) (natural_fine 1 _ (one_≤ (reliable b.settings (regionOf b r) Lower))),
    every_all 6 _ (λ j m. rw (h.figures r (4 + j) i (omega arith) ∙ past j) (six_fine residual_default_limit _ (f.region r i).defaults j m)),
  )
    where
      -- after the first four figures come the defaults
      past : (j : ℕ) → figures_of b.settings (regionOf b r) (4 + j) ≡ six (regionOf b r).defaults j
      past j = let e : 4 + j ≡ suc (suc (suc (suc j))) = omega arith in ap (figures_of b.settings (regionOf b r)) e

  figures_pass : figures_fine t l ≡ true
  unfolding figures_fine
  figures_pass = rw own_figures (every_all regions _ (λ r i. let p = region_passes r i in rw (p.0, p.1, p.2, p.3)))

  -- ---- of a unit
  units_fit : (i : ℕ) → i < length b.roster → UnitFits (roster_unit b i)
  units_fit i m = all_at UnitFits b.roster f.roster i (unit_in []) m

  -- its row is for as many units as its plant has up to it
  units_are : (i : ℕ) → i < length b.roster → units_at l.homes i ≡ (plant_at (roster_unit b) i).units
  unfolding units_at plant_at
  units_are zero m = refl
  units_are (suc i) m =
      rw (h.homes i (omega arith), ends_before (roster_unit b) (length b.roster) i m) (go (joined_at (roster_unit b) (suc i)) (units_are i (omega arith)))
      ∙ sym (next_has (roster_unit b) (λ p. p.units) i)
    where
      r : ℕ
      r = (roster_unit b i).region

      named : r < regions
      named = (units_fit i (omega arith)).region

      other : (g : Bool) → eqb (home r g) passed_over ≡ false
      other g = ne_eqb (home r g) passed_over (λ e. omega (arith, named, one_≤ g))

      go : (s : Bool) → units_at l.homes i ≡ (plant_at (roster_unit b) i).units →
          cond (eqb (cond (not s) (home r (plant_at (roster_unit b) i).good) passed_over) passed_over) (units_at l.homes i + 1) 1 ≡
          cond s ((plant_at (roster_unit b) i).units + 1) 1
      go true e = ap (λ (n : ℕ). n + 1) e
      go false e = rw (other (plant_at (roster_unit b) i).good)

  unit_passes : (i : ℕ) → i < length b.roster → unit_fine l i ≡ true
  unit_passes i m =
      let fits = plant_fits (roster_unit b) i (λ k j. units_fit k (omega arith)) in
      let named : (roster_unit b i).region < regions = (units_fit i m).region in
      rw (
        ap (λ (n : ℕ). leb n passed_over) (h.homes i m) ∙ home_passes (ends (roster_unit b) (length b.roster) i) (plant_at (roster_unit b) i).good,
        row_passes (units_at l.homes i) i l.rows (weight_in b (roster_unit b i).region) (plant_at (roster_unit b) i) fits
            (same (units_are i m)) (weight_in_within b f (roster_unit b i).region named) (λ k j. h.rows i k m j),
      )
    where
      same : {x y : ℕ} → x ≡ y → y ≤ x
      same e = omega arith

      home_passes : (s g : Bool) → leb (cond s (home (roster_unit b i).region g) passed_over) passed_over ≡ true
      home_passes true g = le-leb (home (roster_unit b i).region g) passed_over (omega (arith, (units_fit i m).region, one_≤ g))
      home_passes false g = refl

  rows_in_range : rows_fine t l ≡ true
  unfolding rows_fine
  rows_in_range = every_all t.units _ (λ i m. unit_passes i (omega (arith, h.units)))

  pub kept_in_range : kept_fine t l ≡ true
  kept_in_range = rw (series_pass, figures_pass, rows_in_range)
