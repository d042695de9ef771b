-- What one kind of record is laid out from, as it stands in what is handed in; and that lists and book are long enough for it.
use Rattle.std.specs.Prelude.{List, [], ℕ, ◌+◌, ◌*◌, ◌≤◌, ℤ, pos, length}
use Rattle.rules.specs.Given.{Given}
use Rattle.writer.specs.declared.SettingsRow.{SettingsRow}

-- all that is handed in
abbrev pub values : SettingsRow → List ℤ → List ℕ → List ℕ → ℕ → List ℤ → List ℕ → List ℤ → ℕ → List ℤ → Given
values s region_rows region_qualities frequencies units unit_rows unit_qualities readings requirements requirement_rows =
    record {
      smoothing = s.smoothing;
      limit = s.limit;
      percent = s.percent;
      interval = s.interval;
      region_rows = region_rows;
      region_qualities = region_qualities;
      frequencies = frequencies;
      units = units;
      unit_rows = unit_rows;
      unit_qualities = unit_qualities;
      readings = readings;
      requirements = requirements;
      requirement_rows = requirement_rows;
    }

abbrev no_settings : SettingsRow
no_settings = record { smoothing = pos 0; limit = pos 0; percent = pos 0; interval = pos 0 }

abbrev pub settings_values : SettingsRow → Given
settings_values s = values s [] [] [] 0 [] [] [] 0 []

abbrev pub region_values : List ℤ → List ℕ → List ℕ → Given
region_values rows qualities frequencies = values no_settings rows qualities frequencies 0 [] [] [] 0 []

abbrev pub unit_values : List ℤ → List ℕ → List ℤ → Given
unit_values rows qualities readings = values no_settings [] [] [] 0 rows qualities readings 0 []

abbrev pub requirement_values : List ℤ → Given
requirement_values rows = values no_settings [] [] [] 0 [] [] [] 0 rows

-- the same with so many units, and nothing but the two counts
abbrev pub so_many_units : ℕ → List ℤ → List ℕ → List ℤ → Given
so_many_units units rows qualities readings = values no_settings [] [] [] units rows qualities readings 0 []

abbrev pub so_many : ℕ → ℕ → Given
so_many units requirements = values no_settings [] [] [] units [] [] [] requirements []

-- all lists, and no settings
abbrev pub lists_values : List ℤ → List ℕ → List ℕ → ℕ → List ℤ → List ℕ → List ℤ → ℕ → List ℤ → Given
lists_values region_rows region_qualities frequencies units unit_rows unit_qualities readings requirements requirement_rows =
    values no_settings region_rows region_qualities frequencies units unit_rows unit_qualities readings requirements requirement_rows

-- the lists have the record's numbers
pub record RegionLists (region : ℕ) (rows : List ℤ) (qualities frequencies : List ℕ) : Type 0 where
  pub row : 9 * region + 9 ≤ length rows
  pub quality : 10 * region + 10 ≤ length qualities
  pub frequency : 75 * region + 75 ≤ length frequencies

pub record UnitLists (unit : ℕ) (rows : List ℤ) (qualities : List ℕ) (readings : List ℤ) : Type 0 where
  pub row : 12 * unit + 12 ≤ length rows
  pub quality : 10 * unit + 10 ≤ length qualities
  pub reading : 75 * unit + 75 ≤ length readings

-- and the book the record's bytes
pub record RegionRoom (at region : ℕ) (book : List ℕ) (rows : List ℤ) (qualities frequencies : List ℕ) : Type 0 where
  pub bytes : at + 368 ≤ length book
  pub lists : RegionLists region rows qualities frequencies

pub record UnitRoom (at unit : ℕ) (book : List ℕ) (rows : List ℤ) (qualities : List ℕ) (readings : List ℤ) : Type 0 where
  pub bytes : at + 372 ≤ length book
  pub lists : UnitLists unit rows qualities readings

pub record RequirementRoom (at requirement : ℕ) (book : List ℕ) (rows : List ℤ) : Type 0 where
  pub bytes : at + 24 ≤ length book
  pub row : 7 * requirement + 7 ≤ length rows

-- the same for a body
pub record UnitsRoom (units : ℕ) (book : List ℕ) (rows : List ℤ) (qualities : List ℕ) (readings : List ℤ) : Type 0 where
  pub bytes : 1904 + 372 * units ≤ length book
  pub row : 12 * units ≤ length rows
  pub quality : 10 * units ≤ length qualities
  pub reading : 75 * units ≤ length readings

pub record RequirementsRoom (start requirements : ℕ) (book : List ℕ) (rows : List ℤ) : Type 0 where
  pub bytes : start + 24 * requirements ≤ length book
  pub row : 7 * requirements ≤ length rows

-- and for a book within the limits
pub record BookLists (units requirements : ℕ) (region_rows : List ℤ) (region_qualities frequencies : List ℕ) (unit_rows : List ℤ) (unit_qualities : List ℕ)
    (readings requirement_rows : List ℤ) : Type 0 where
  pub region_row : 45 ≤ length region_rows
  pub region_quality : 50 ≤ length region_qualities
  pub frequency : 375 ≤ length frequencies
  pub few : units ≤ 512
  pub unit_row : 12 * units ≤ length unit_rows
  pub unit_quality : 10 * units ≤ length unit_qualities
  pub reading : 75 * units ≤ length readings
  pub fewer : requirements ≤ 32
  pub requirement_row : 7 * requirements ≤ length requirement_rows
