-- What each call promises, completely: its reply, the tally and all that is lent, on refusals too. l is what is lent as it came, l' as the call leaves it.
use Rattle.rules.specs.declared.Refusal.{Refusal}
use Rattle.std.specs.Prelude.{◌≡◌, List, ℕ, ◌+◌, ◌*◌, ℤ, pos, get_or, set, Result}
use Rattle.rules.specs.Quantities.{points}
use Rattle.rules.specs.Book.{Region, Unit}
use Rattle.rules.specs.Contents.{contents}
use Rattle.interval.specs.declared.Tally.{Tally}
use Rattle.interval.specs.declared.Step.{Step}
use Rattle.interval.specs.Tally.{settings_of, next_region, units_taken}
use Rattle.interval.specs.Lent.{
  Lent,
  put_from,
  series_start,
  kept_measure,
  weight_held,
  sums_each,
  sums_start,
  part_of,
  moved,
  figures_each,
  figures_of,
  row_each,
  good_before,
  deviation_before,
  number_with,
  good_with,
  deviation_with,
  row_with,
  homes_with,
  deviations_with,
}
use Rattle.interval.specs.Calls.{opened, stepped, left, settings_reply, settled, frequency_reply, counted, unit_reply, unit_counted, requirement_reply}

-- ---- contents
pub record ContentsPromise (part : List ℕ) (r : Result Tally Refusal) : Type 0 where
  pub reply : r ≡ opened (contents part)

-- ---- settings
pub record SettingsPromise (t : Tally) (part : List ℕ) (r : Step) : Type 0 where
  pub reply : r ≡ stepped (settled t) (settings_reply t part) t

-- ---- a frequency record: its region's measures, sums of deviations that start at 0, and its figures
abbrev pub region_kept : Tally → Region → Lent → Lent
region_kept t x l =
    record {
      measures = put_from (series_start (next_region t)) points (kept_measure (settings_of t) x) l.measures;
      sums = put_from (sums_start (next_region t)) sums_each (λ j. pos 0) l.sums;
      figures = put_from (figures_each * next_region t) figures_each (figures_of (settings_of t) x) l.figures;
      numbers = l.numbers;
      homes = l.homes;
      rows = l.rows;
      groups = l.groups;
      deviations = l.deviations;
    }

pub record FrequencyPromise (t : Tally) (part : List ℕ) (l : Lent) (r : Step) (l' : Lent) : Type 0 where
  pub reply : r ≡ stepped (λ _. counted 0 t) (frequency_reply t part l) t
  pub lent : l' ≡ left (region_kept t) (frequency_reply t part l) l

-- ---- a unit: its plant's part in its region's sums, and its plant's number, home and row up to this unit; its group, and the group's deviations
abbrev pub weighed : Lent → Unit → ℕ → ℤ
weighed l u i = weight_held (get_or l.measures (series_start u.region + i) (pos 0))

abbrev pub unit_kept : Tally → Unit → Lent → Lent
unit_kept t u l =
    let n = units_taken t in
    record {
      measures = l.measures;
      sums = moved u.region (part_of (good_before n u l) (deviation_before n u l)) (part_of (good_with n u l) (deviation_with n u l)) l.sums;
      figures = l.figures;
      numbers = set l.numbers n (number_with n u l);
      homes = homes_with n u l;
      rows = put_from (row_each * n) row_each (row_with n u l (weighed l u)) l.rows;
      groups = set l.groups n u.group;
      deviations = deviations_with n u l;
    }

pub record UnitPromise (t : Tally) (part : List ℕ) (l : Lent) (r : Step) (l' : Lent) : Type 0 where
  pub reply : r ≡ stepped (unit_counted t) (unit_reply t part l) t
  pub lent : l' ≡ left (unit_kept t) (unit_reply t part l) l

-- ---- a requirement
pub record RequirementPromise (t : Tally) (part : List ℕ) (r : Step) : Type 0 where
  pub reply : r ≡ stepped (λ q. counted (q.number + 1) t) (requirement_reply t part) t
