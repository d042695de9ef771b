-- How a book's values are judged: what is found of a body, and what the parts of a record's judgement find.
use Rattle.book.specs.declared.FrequencyFields.{FrequencyFields}
use Rattle.rules.specs.declared.Located.{Located}
use Rattle.rules.specs.declared.Refusal.{Refusal}
use Rattle.std.specs.Prelude.{Bool, true, cond, not, ◌&&◌, ◌||◌, List, [], ◌∷◌, ℕ, zero, suc, ◌+◌, ◌*◌, eqb, ℤ, pos, get_or, Result, Ok, Err, ⊤}
use Rattle.rules.specs.declared.Refusal.TheVariants.{FrequencyHeader, UnitQuality}
use Rattle.rules.specs.Refusals.{Reply, LocatedReply, taken, refused, number, ◌>>=◌}
use Rattle.rules.specs.Book.{Unit}
use Rattle.rules.specs.Layout.{
  settings_smoothing,
  settings_limit,
  settings_percent,
  settings_interval,
  region_before,
  region_generation,
  unit_region,
  unit_kind,
  unit_trajectory,
  unit_group,
  unit_number,
}
use Rattle.rules.specs.Laid.{fits, fits_signed, word}
use Rattle.rules.specs.Given.{Given}
use Rattle.rules.specs.Written.{unit_laid, unit_given}
use Rattle.rules.specs.UnitRecord.{unit_in}
use Rattle.rules.specs.Groups.{same_group, in_its_group}
use Rattle.book.specs.declared.UnitFields.{UnitFields}
use Rattle.book.specs.Defaults.{none_in_three}
use Rattle.writer.specs.declared.SettingsRow.{SettingsRow}

-- all records of a body are fine, or the first refusal
abbrev pub judged : {A : Type 0} → LocatedReply A → Result ⊤ Located
judged (taken a) = Ok tt
judged (refused w) = Err w

-- ---- numbers that fit their fields
abbrev pub settings_fit : SettingsRow → Bool
settings_fit s =
    fits settings_smoothing s.smoothing && fits settings_limit s.limit && fits settings_percent s.percent && fits settings_interval s.interval

abbrev pub amounts_fit : ℤ → ℤ → Bool
amounts_fit before generation = fits_signed region_before before && fits region_generation generation

abbrev pub header_fits : List ℤ → ℕ → Bool
header_fits rows row =
    fits unit_region (get_or rows (row + 1) (pos 0)) && fits unit_kind (get_or rows (row + 2) (pos 0)) && fits_signed unit_trajectory
    (get_or rows (row + 3) (pos 0)) && fits_signed unit_trajectory (get_or rows (row + 4) (pos 0))

-- the least number that a unit may have: none is enough for one that does not fit
abbrev pub least_for : ℤ → ℕ → ℕ
least_for x least = cond (fits unit_number x) least 65536

-- ---- a number that does not fit is told where its field's rule is tested: FM before and generation behind the quality, a group behind the defaults
abbrev pub amounts_told : Result FrequencyFields Refusal → Result FrequencyFields Refusal
amounts_told (Ok g) = Err FrequencyHeader
amounts_told (Err x) = cond (eqb (number x) 73) (Err x) (Err FrequencyHeader)

abbrev pub group_told : Result UnitFields Refusal → Result UnitFields Refusal
group_told (Ok v) = Err UnitQuality
group_told (Err x) = cond (eqb (number x) 81) (Err x) (cond (eqb (number x) 82) (Err x) (Err UnitQuality))

-- ---- a unit in its group, by the rows of the units before it
abbrev pub row_region : List ℤ → ℕ → ℕ
row_region rows i = word unit_region (get_or rows (12 * i + 1) (pos 0))

abbrev pub row_group : List ℤ → ℕ → ℕ
row_group rows i = word unit_group (get_or rows (12 * i + 5) (pos 0))

unfoldable pub new_before : ℕ → List ℤ → ℕ → Bool
new_before h rows zero = true
new_before h rows (suc i) = new_before h rows i && not (eqb (row_group rows i) h)

unfoldable pub stands : UnitFields → List ℤ → ℕ → Bool
stands f rows zero = true
stands f rows (suc i) =
    cond (same_group (row_group rows i) f.group) (eqb (row_region rows i) f.region && (none_in_three f.raise && none_in_three f.lower))
    (eqb f.group 0 || new_before f.group rows (suc i))

-- the units before, the last of them first
unfoldable pub units_before : Given → ℕ → List Unit
units_before g zero = []
units_before g (suc j) = unit_in (unit_laid g j) ∷ units_before g j

-- a unit by itself, and then in its group
abbrev pub unit_found : ℕ → Given → ℕ → Reply Unit
unit_found least g j = unit_given least g j >>= in_its_group (units_before g j)
