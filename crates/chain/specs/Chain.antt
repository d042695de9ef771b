-- A chain of calls: the table of contents, and then records, each with the tally and the lent lists as the call before left them. A refused call may
-- stand anywhere in it. Over what the calls promise, not over their code. `Means` is what a chain leaves: the definitions of the rules over the
-- records taken, each counted once and in its place (proofs/ChainTheorem.antt has the theorem).
use Rattle.std.specs.Prelude.{◌≡◌, cond, ◌||◌, List, ℕ, zero, suc, ◌+◌, ◌*◌, ◌-◌, ◌/◌, ◌%◌, ◌≤◌, ◌<◌, min, eqb, ltb, ℤ, ◌-ℤ◌, Ok, Err}
use Rattle.integers.specs.Sums.{sum, when}
use Rattle.integers.specs.Fills.{filled}
use Rattle.rules.specs.declared.Located.{Located}
use Rattle.rules.specs.Quantities.{points, regions}
use Rattle.rules.specs.Bytes.{number_at, listed}
use Rattle.rules.specs.Refusals.{taken}
use Rattle.rules.specs.Book.{Settings, Region, Unit}
use Rattle.rules.specs.Contents.{Counts, contents}
use Rattle.rules.specs.SettingsRecord.{settings, settings_in}
use Rattle.rules.specs.FrequencyRecord.{region_in, frequency_record}
use Rattle.rules.specs.UnitRecord.{unit_in}
use Rattle.rules.specs.RequirementRecord.{requirement_in, requirement_record}
use Rattle.rules.specs.Performance.{weight}
use Rattle.interval.specs.declared.Tally.{Tally}
use Rattle.interval.specs.declared.Step.{Step}
use Rattle.interval.specs.Tally.{settings_of, before_units}
use Rattle.interval.specs.Lent.{Lent, kept_measure, sums_each, part_of, figures_each, figures_of, row_each, row_of}
use Rattle.interval.specs.Promises.{ContentsPromise, SettingsPromise, FrequencyPromise, UnitPromise, RequirementPromise}
use Rattle.chain.specs.Long.{Long}
use Rattle.chain.specs.PlantsAt.{plant_at, good_before, deviation_before, home_at, units_before}
use Rattle.chain.specs.Taken.{counts_in, unit_behind}

-- ---- the chain: n records were taken, `part m` is what the call that took record m was handed
abbrev pub Taken : Step → Type 0
Taken r = r.taking ≡ Ok tt

abbrev pub Refused : Step → Located → Type 0
Refused r why = r.taking ≡ Err why

pub data Chain (head : List ℕ) (part : ℕ → List ℕ) (l₀ : Lent) : ℕ → Tally → Lent → Type 0 where
  begun : {t : Tally} → ContentsPromise head (Ok t) → Chain head part l₀ 0 t l₀
  took_settings : {n : ℕ} {t : Tally} {l : Lent} {r : Step} → Chain head part l₀ n t l → SettingsPromise t (part n) r → Taken r →
      Chain head part l₀ (suc n) r.tally l
  took_frequency : {n : ℕ} {t : Tally} {l l' : Lent} {r : Step} → Chain head part l₀ n t l → FrequencyPromise t (part n) l r l' → Taken r →
      Chain head part l₀ (suc n) r.tally l'
  took_unit : {n : ℕ} {t : Tally} {l l' : Lent} {r : Step} → Chain head part l₀ n t l → UnitPromise t (part n) l r l' → Taken r →
      Chain head part l₀ (suc n) r.tally l'
  took_requirement : {n : ℕ} {t : Tally} {l : Lent} {r : Step} → Chain head part l₀ n t l → RequirementPromise t (part n) r → Taken r →
      Chain head part l₀ (suc n) r.tally l
  refused_settings : {n : ℕ} {t : Tally} {l : Lent} {r : Step} {p : List ℕ} {why : Located} → Chain head part l₀ n t l → SettingsPromise t p r → Refused r why →
      Chain head part l₀ n r.tally l
  refused_frequency : {n : ℕ} {t : Tally} {l l' : Lent} {r : Step} {p : List ℕ} {why : Located} → Chain head part l₀ n t l → FrequencyPromise t p l r l' →
      Refused r why → Chain head part l₀ n r.tally l'
  refused_unit : {n : ℕ} {t : Tally} {l l' : Lent} {r : Step} {p : List ℕ} {why : Located} → Chain head part l₀ n t l → UnitPromise t p l r l' → Refused r why →
      Chain head part l₀ n r.tally l'
  refused_requirement : {n : ℕ} {t : Tally} {l : Lent} {r : Step} {p : List ℕ} {why : Located} → Chain head part l₀ n t l → RequirementPromise t p r →
      Refused r why → Chain head part l₀ n r.tally l

-- ---- how many regions and units are among the first n records
abbrev pub regions_among : ℕ → ℕ
regions_among n = min (n - 1) regions

abbrev pub units_among : ℕ → ℕ → ℕ
units_among units n = min (n - before_units) units

-- what a unit moves in the sums, at each index of all five regions: its plant's part before it, to that with it
unfoldable pub adds : (ℕ → Unit) → ℕ → ℕ → ℤ
adds unit i j =
    when (eqb (j / sums_each) (unit i).region) (part_of (plant_at unit i).good (plant_at unit i).deviation (j % sums_each)
    -ℤ part_of (good_before unit i) (deviation_before unit i) (j % sums_each))

-- the deviations of the group that was taken last among so many units; a unit without a group leaves them
unfoldable pub deviations_at : (ℕ → Unit) → ℕ → List ℤ → List ℤ
deviations_at unit zero ds = ds
deviations_at unit (suc i) ds = cond (eqb (unit i).group 0) (deviations_at unit i ds) (filled points (plant_at unit i).deviation (deviations_at unit i ds))

-- ---- the records, in their bytes
module _ (part : ℕ → List ℕ) where
  abbrev pub the_settings : Settings
  the_settings = settings_in (part 0)

  abbrev pub region : ℕ → Region
  region r = region_in (part (suc r))

  abbrev pub unit : ℕ → Unit
  unit i = unit_in (part (before_units + i))

  -- the first m units, in order
  abbrev pub roster : ℕ → List Unit
  roster m = listed 0 m unit

  -- the least number that record n may have: 0 for the first unit and the first requirement, one more than the number before for the others
  unfoldable pub least_at : ℕ → ℕ → ℕ
  least_at units zero = 0
  least_at units (suc m) = cond (ltb m before_units || eqb (m + 1) (before_units + units)) 0 (number_at 2 0 (part m) + 1)

  -- the format takes record m
  pub record RecordTaken (c : Counts) (m : ℕ) : Type 0 where
    pub as_settings : m ≡ 0 → settings (part m) ≡ taken (settings_in (part m))
    pub as_frequency : 1 ≤ m → m < before_units → frequency_record (m - 1) (part m) ≡ taken (region_in (part m))
    pub as_unit : before_units ≤ m → m < before_units + c.units → unit_behind (units_before unit (m - before_units)) (least_at c.units m)
        (part m) ≡ taken (unit_in (part m))
    pub as_requirement : before_units + c.units ≤ m → requirement_record (least_at c.units m) (eqb (m + 1) (before_units + c.units + c.requirements))
        (part m) ≡ taken (requirement_in (part m))

  -- ---- what k regions and m units leave in the lent lists. All other numbers are as they were
  -- what the points of a unit's region weigh
  abbrev pub weight_of : ℕ → ℕ → ℤ
  weight_of i = weight the_settings (region (unit i).region)

  -- at each index of a list: a region's measure as it is kept, its sum over all good plants of it, its figure; a number in a unit's row, which is its plant's
  -- up to it
  abbrev pub measure_at : ℕ → ℤ
  measure_at j = kept_measure the_settings (region (j / points)) (j % points)

  abbrev pub sum_at : ℕ → ℕ → ℤ
  sum_at m j = sum m (λ i. adds unit i j)

  abbrev pub figure_at : ℕ → ℤ
  figure_at j = figures_of the_settings (region (j / figures_each)) (j % figures_each)

  abbrev pub row_at : ℕ → ℤ
  row_at j = row_of (weight_of (j / row_each)) (plant_at unit (j / row_each)) (j % row_each)

  pub record Leaves (l₀ : Lent) (k m : ℕ) (l : Lent) : Type 0 where
    pub measures : l.measures ≡ filled (points * k) measure_at l₀.measures
    pub sums : l.sums ≡ filled (sums_each * k) (sum_at m) l₀.sums
    pub figures : l.figures ≡ filled (figures_each * k) figure_at l₀.figures
    pub numbers : l.numbers ≡ filled m (λ i. (plant_at unit i).number) l₀.numbers
    pub homes : l.homes ≡ filled m (home_at unit m) l₀.homes
    pub rows : l.rows ≡ filled (row_each * m) row_at l₀.rows
    pub groups : l.groups ≡ filled m (λ i. (unit i).group) l₀.groups
    pub deviations : l.deviations ≡ deviations_at unit m l₀.deviations

-- ---- what a chain leaves
pub record Means (head : List ℕ) (part : ℕ → List ℕ) (l₀ : Lent) (n : ℕ) (t : Tally) (l : Lent) : Type 0 where
  pub table : contents head ≡ taken (counts_in head)
  pub units : t.units ≡ (counts_in head).units
  pub requirements : t.requirements ≡ (counts_in head).requirements
  pub records : t.records ≡ n
  pub most : n ≤ before_units + (counts_in head).units + (counts_in head).requirements
  pub least : t.least ≡ least_at part (counts_in head).units n
  pub before : n ≡ 0 → settings_of t ≡ record { smoothing = 0; limit = 0; percent = 0; interval = 0 }
  pub kept : 0 < n → settings_of t ≡ the_settings part
  pub taken_each : (m : ℕ) → m < n → RecordTaken part (counts_in head) m
  -- from the first frequency record on, for the units taken
  pub long : 1 < n → Long l₀ (units_among (counts_in head).units n)
  pub lent : Leaves part l₀ (regions_among n) (units_among (counts_in head).units n) l
