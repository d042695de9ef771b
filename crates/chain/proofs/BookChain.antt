-- THE BOOK OF THE RECORDS TAKEN: once a chain has all units in, what it has kept is what the rules say of the book whose settings, regions and roster are the
-- records that it took, whatever its requirements.
use mathlib.Core.Path.{◌≡◌, refl, sym, ◌∙◌, ap, ap₂, subst}
use mathlib.Core.Bool.{true}
use mathlib.Core.List.{List, []}
use Prim.Native.Nat.{ℕ, suc, ◌+◌, ◌*◌, ◌≤◌, ◌<◌}
use native.Mathlib.Omega.{arith}
use lib.Dec.{eqb}
use lib.ListN.{length, drop}
use Rattle.integers.specs.Totals.{total, All}
use Rattle.integers.specs.Bounds.{Within}
use Rattle.rules.specs.Quantities.{points, regions, measure_limit}
use Rattle.rules.specs.Bytes.{listed}
use Rattle.laws.proofs.BytesLaws.{listed_from_zero}
use Rattle.rules.specs.Refusals.{taken, ◌>>=◌}
use Rattle.rules.specs.Contents.{frequency_start, unit_start, requirement_start, requirement_size}
use Rattle.rules.specs.FrequencyRecord.{region_in}
use Rattle.rules.specs.UnitRecord.{unit_in}
use Rattle.rules.specs.RequirementRecord.{requirement_in}
use Rattle.rules.specs.WholeBook.{book}
use Rattle.rules.specs.Book.{Settings, Region, Unit, Requirement, Book, regionOf, no_region}
use Rattle.laws.proofs.Limits.{UnitFits, BookFits}
use Rattle.laws.proofs.LimitsLaws.{settings_fit, region_fits}
use Rattle.rules.specs.Measure.{measure, measure_in}
use Rattle.rules.specs.Plants.{Plant, plants, plants_in, good_plants}
use Rattle.rules.specs.Performance.{weight, weight_in, wanted}
use Rattle.rules.specs.Answer.{answer}
use Rattle.rules.specs.Report.{report_rows}
use Rattle.interval.specs.declared.Tally.{Tally}
use Rattle.interval.specs.Tally.{before_units}
use Rattle.interval.specs.Lent.{Lent, kept_measure, figures_of, row_of}
use Rattle.kept.specs.Kept.{kept_answer}
use Rattle.kept.specs.Range.{kept_fine}
use Rattle.kept.specs.KeptReport.{place_of, place_row}
use Rattle.chain.proofs.ChainLaws.{all_listed, listed_ext, listed_length}
use Rattle.chain.specs.PlantsAt.{plant_at, home_at}
use Rattle.chain.proofs.PlantsAt.{plant_region, plants_same, homes_same}
use Rattle.chain.specs.Taken.{counts_in}
use Rattle.chain.proofs.Taken.{contents_is, settings_is}
use Rattle.chain.specs.Chain.{Chain, Means, regions_among, units_among, the_settings, region, unit, roster, weight_of}
use Rattle.chain.proofs.ChainTheorem.{measure_fits, chain}
use Rattle.chain.proofs.ChainValues.{one_regions, measures_are, sums_are, figures_are, numbers_are, homes_are, rows_are}
use Rattle.chain.proofs.Judged.{unit_within}
use Rattle.chain.specs.BookRecords.{part_of, Read}
use Rattle.chain.proofs.BookRecords.{settings_part, frequency_place, unit_place, book_read, frequencies_each, units_each, requirements_each}
use Rattle.chain.specs.Keeps.{Keeps, roster_unit}
use Rattle.chain.proofs.KeptInRange.{kept_in_range}
use Rattle.chain.proofs.AnswerIs.{answer_is}
use Rattle.chain.specs.Reports.{row_at}
use Rattle.chain.proofs.ReportIs.{rows_are_reported}
use Rattle.chain.specs.BookChain.{book_of}

module _
    {head : List ℕ} {part : ℕ → List ℕ} {l₀ : Lent} {n : ℕ} {t : Tally} {l : Lent} (d : Chain head part l₀ n t l)
    (all : before_units + (counts_in head).units ≤ n) (qs : List Requirement) where
  abbrev many : ℕ
  many = (counts_in head).units

  abbrev b : Book
  b = book_of many part qs

  m : Means head part l₀ n t l
  m = chain d

  region_there : (r : ℕ) → r < regions → r < regions_among n
  region_there r h = go (counts_in head).units all
    where
      go : (u : ℕ) → before_units + u ≤ n → r < regions_among n
      go u a = omega arith

  units_there : units_among many n ≡ many
  units_there = go many all
    where
      go : (u : ℕ) → before_units + u ≤ n → units_among u n ≡ u
      go u a = omega arith

  roster_many : length b.roster ≡ many
  roster_many = listed_length 0 many (unit part)

  unit_there : (j : ℕ) → j < length b.roster → j < units_among many n
  unit_there j h = rw units_there (rw roster_many at h)

  -- the book's records are those that the chain read
  region_is : (r : ℕ) → r < regions → region part r ≡ regionOf b r
  region_is r h = sym (listed_from_zero regions (region part) r no_region h)

  unit_is : (j : ℕ) → j < many → unit part j ≡ roster_unit b j
  unit_is j h = sym (listed_from_zero many (unit part) j (unit_in []) h)

  unit_fine : (i : ℕ) → i < many → UnitFits (unit part i)
  unit_fine i h = unit_within d i (rw units_there h)

  -- and so are its plants
  plant_is : (j : ℕ) → j < many → plant_at (unit part) j ≡ plant_at (roster_unit b) j
  plant_is j h = plants_same (unit part) (roster_unit b) j (λ i k. unit_is i (omega arith))

  plant_in : (j : ℕ) → j < many → (plant_at (unit part) j).region ≡ (unit part j).region
  plant_in j h = plant_region (unit part) j (λ i k. one_regions d i (rw units_there (below h k)))
    where
      below : {i j m : ℕ} → j < m → i ≤ j → i < m
      below h k = omega arith

  -- a row is by what the points of its unit's region weigh
  row_is : (j i : ℕ) → j < many → row_of (weight_of part j) (plant_at (unit part) j) i ≡
      row_of (weight_in b (roster_unit b j).region) (plant_at (roster_unit b) j) i
  row_is j i h =
      ap (λ (x : Region). row_of (weight (the_settings part) x) (plant_at (unit part) j) i) (region_is (unit part j).region (unit_fine j h).region)
      ∙ ap₂ (λ (u : Unit) (p : Plant). row_of (weight_in b u.region) p i) (unit_is j h) (plant_is j h)

  pub chain_keeps : Keeps t l b
  chain_keeps =
      record {
        settings = m.kept (omega arith);
        units = m.units ∙ sym roster_many;
        measures = λ r i h k. measures_are d r (region_there r h) i k ∙ ap (λ (x : Region). kept_measure (the_settings part) x i) (region_is r h);
        sums = λ e r p h k. sums_are d r (region_there r h) e p k ∙ ap (λ (u : ℕ). total (λ x. wanted e (x.deviation p))
            (good_plants (plants_in (eqb r) (plants (roster part u))))) units_there;
        figures = λ r i h k. figures_are d r (region_there r h) i k ∙ ap (λ (x : Region). figures_of (the_settings part) x i) (region_is r h);
        numbers = λ j h. numbers_are d j (unit_there j h) ∙ ap (λ (p : Plant). p.number) (plant_is j (rw roster_many at h));
        homes = λ j h. homes_are d j (unit_there j h) ∙ ap (λ (u : ℕ). home_at (unit part) u j) (units_there ∙ sym roster_many)
            ∙ homes_same (unit part) (roster_unit b) (length b.roster) j h (λ i k. unit_is i (rw roster_many at k));
        rows = λ j i h k. rows_are d j (unit_there j h) i k ∙ row_is j i (rw roster_many at h);
        regions = λ j h. let k = rw roster_many at h in
            ap (λ (p : Plant). p.region) (sym (plant_is j k)) ∙ plant_in j k ∙ ap (λ (u : Unit). u.region) (unit_is j k);
      }

  inside : All (λ u. u.region < regions) b.roster
  inside = all_listed (λ u. u.region < regions) many (unit part) (λ i h. (unit_fine i h).region)

  measured : (r p : ℕ) → r < regions → p < points → Within measure_limit (measure_in b r p)
  measured r p h k =
      subst (λ (x : Region). Within measure_limit (measure (the_settings part) x p)) (region_is r h)
      (measure_fits head part l₀ m r (region_there r h) p k)

  -- so it gives the rules' answer to any requirement
  pub chain_answers : (q : Requirement) → q.set ≤ 31 → kept_answer t l q ≡ answer b q
  chain_answers = answer_is t l b chain_keeps inside measured

  -- and the rows of the rules' report
  pub chain_reports : (row version : ℕ) → (place_of t l row >>= (λ p. taken (place_row t l version p))) ≡ row_at (report_rows b version) row
  chain_reports = rows_are_reported t l b chain_keeps inside measured

-- and it is in range, which the requirements have no part in
module _
    {head : List ℕ} {part : ℕ → List ℕ} {l₀ : Lent} {n : ℕ} {t : Tally} {l : Lent} (d : Chain head part l₀ n t l)
    (all : before_units + (counts_in head).units ≤ n) where
  taken_fits : BookFits (book_of (counts_in head).units part [])
  unfolding All
  taken_fits =
      let m = chain d in
      record {
        settings = settings_fit (part 0) _ ((m.taken_each 0 (omega arith)).as_settings refl);
        region =
            λ r h.
            rw (← region_is d all [] r h) (region_fits _ (part (suc r)) _ ((m.taken_each (suc r) (omega arith)).as_frequency (omega arith) (omega arith)));
        roster = all_listed UnitFits _ (unit part) (unit_fine d all []);
        few = omega (arith, listed_length 0 (counts_in head).units (unit part), (contents_is head (counts_in head) m.table).1.units);
        requirements = tt;
      }

  pub chain_kept_in_range : kept_fine t l ≡ true
  chain_kept_in_range = kept_in_range t l _ (chain_keeps d all []) taken_fits

-- ---- a book that the format takes is the book of its parts
module _ (bs : List ℕ) (b : Book) (e : book bs ≡ taken b) where
  w : Read bs b
  w = book_read bs b e

  abbrev many_units : ℕ
  many_units = (counts_in bs).units

  settings_same : b.settings ≡ the_settings (part_of bs)
  settings_same = sym (rw (settings_part bs) (settings_is _ _ w.settings).0)

  regions_same : b.regions ≡ listed 0 regions (region (part_of bs))
  regions_same =
      (frequencies_each regions 0 (drop frequency_start bs) b.regions w.regions).0
      ∙ listed_ext 0 regions _ _ (λ r h. ap region_in (sym (frequency_place bs (suc r) r refl (omega arith))))

  roster_same : b.roster ≡ listed 0 many_units (unit (part_of bs))
  roster_same =
      (units_each many_units 1 0 [] (drop unit_start bs) b.roster w.roster).0
      ∙ listed_ext 0 many_units _ _ (λ j h. ap unit_in (sym (unit_place bs (before_units + j) j refl (omega arith))))

  pub book_records : b ≡ book_of many_units (part_of bs) b.requirements
  book_records =
      ap₂ (λ (s : Settings) (rs : List Region). record { settings = s; regions = rs; roster = b.roster; requirements = b.requirements })
      settings_same regions_same
      ∙ ap (λ (us : List Unit). book_with us) roster_same
    where
      book_with : List Unit → Book
      book_with us =
          record { settings = the_settings (part_of bs); regions = listed 0 regions (region (part_of bs)); roster = us; requirements = b.requirements }

  pub requirements_many : length b.requirements ≡ (counts_in bs).requirements
  requirements_many =
      let body = drop (requirement_start many_units) bs in
      ap length (requirements_each (counts_in bs).requirements 1 0 body b.requirements w.requirements).0
      ∙ listed_length 0 (counts_in bs).requirements (λ i. requirement_in (drop (requirement_size * i) body))
