-- The book writer (02, R-4): a book's bytes from what is handed in, or a refusal. Each record is judged as the reader judges its bytes, and a number that does
-- not fit its field breaks that field's rule.
use Rattle.std.specs.Prelude.{Bool, ◌&&◌, List, [], ◌∷◌, ◌++◌, ℕ, zero, suc, ◌+◌, ◌*◌, leb, eqb, length}
use Rattle.rules.specs.declared.Refusal.TheVariants.{TooShort, WrongCount}
use Rattle.rules.specs.Quantities.{points, regions, most_units, most_requirements}
use Rattle.rules.specs.Refusals.{Reply, LocatedReply, taken, at, located, unless, ◌>>=◌}
use Rattle.rules.specs.Book.{Settings, Region, Unit, Requirement, Book}
use Rattle.rules.specs.Layout.{
  book_mark,
  entry_count,
  zero_field,
  entry_kind,
  entry_items,
  entry_offset,
  entry_length,
  settings_entry,
  frequency_entry,
  unit_entry,
  requirement_entry,
  settings_smoothing,
  settings_limit,
  settings_percent,
  settings_interval,
  region_position,
  region_separation,
  region_quality,
  region_before,
  region_generation,
  region_defaults,
  region_frequencies,
  unit_number,
  unit_region,
  unit_kind,
  unit_trajectory,
  unit_defaults,
  unit_quality,
  unit_group,
  unit_readings,
  requirement_number,
  requirement_set,
  requirement_direction,
  requirement_price,
  requirement_cost,
  requirement_enabled,
  requirement_used,
}
use Rattle.rules.specs.Contents.{
  mark,
  contents_size,
  settings_size,
  frequency_start,
  frequency_size,
  unit_start,
  unit_size,
  requirement_start,
  requirement_size,
}
use Rattle.rules.specs.SettingsRecord.{settings_judged}
use Rattle.rules.specs.FrequencyRecord.{RegionWidths, region_judged}
use Rattle.rules.specs.UnitRecord.{UnitWidths, unit_judged}
use Rattle.rules.specs.Groups.{in_its_group}
use Rattle.rules.specs.RequirementRecord.{requirement_judged}
use Rattle.rules.specs.Laid.{Filled, strung, laid, fits, fits_signed, ◌is◌, ◌holds◌, ◌holds_signed◌, ◌are◌, ◌are_signed◌}
use Rattle.rules.specs.Given.{
  Given,
  region_row,
  unit_row,
  requirement_row,
  quality_bytes,
  region_cell,
  unit_cell,
  requirement_cell,
  region_mark,
  unit_mark,
  frequency_given,
  reading_given,
}

-- ---- the bytes
-- an entry of the table: offset is where the body before it ends, length is items times record size
abbrev pub entry_filled : ℕ → ℕ → ℕ → ℕ → ℕ → List Filled → List Filled
entry_filled entry kind items start size rest =
    (entry_kind entry is kind) ∷ (entry_items entry is items) ∷ (entry_offset entry is start) ∷ (entry_length entry is items * size) ∷ rest

abbrev pub contents_filled : ℕ → ℕ → List Filled
contents_filled units requirements =
    (book_mark is mark)
    ∷ (entry_count is 4)
    ∷ (zero_field is 0)
    ∷ entry_filled settings_entry 1 1 contents_size settings_size
    (entry_filled frequency_entry 2 regions frequency_start frequency_size
    (entry_filled unit_entry 3 units unit_start unit_size
    (entry_filled requirement_entry 4 requirements (requirement_start units) requirement_size [])))

abbrev pub settings_filled : Given → List Filled
settings_filled g =
    (settings_smoothing holds g.smoothing)
    ∷ (settings_limit holds g.limit)
    ∷ (settings_percent holds g.percent)
    ∷ (settings_interval holds g.interval)
    ∷ []

abbrev pub region_filled : Given → ℕ → List Filled
region_filled g r =
    (region_position is r)
    ∷ (region_separation holds region_cell g r 0)
    ∷ (region_quality are region_mark g r)
    ∷ (region_before holds_signed λ i. region_cell g r 1)
    ∷ (region_generation holds region_cell g r 2)
    ∷ (region_defaults are_signed λ i. region_cell g r (3 + i))
    ∷ (region_frequencies are frequency_given g r)
    ∷ []

abbrev pub unit_filled : Given → ℕ → List Filled
unit_filled g j =
    (unit_number holds unit_cell g j 0)
    ∷ (unit_region holds unit_cell g j 1)
    ∷ (unit_kind holds unit_cell g j 2)
    ∷ (unit_trajectory holds_signed λ i. unit_cell g j (3 + i))
    ∷ (unit_defaults are_signed λ i. unit_cell g j (6 + i))
    ∷ (unit_quality are unit_mark g j)
    ∷ (unit_group holds unit_cell g j 5)
    ∷ (unit_readings are_signed reading_given g j)
    ∷ []

abbrev pub requirement_filled : Given → ℕ → List Filled
requirement_filled g q =
    (requirement_number holds requirement_cell g q 0)
    ∷ (requirement_set holds requirement_cell g q 1)
    ∷ (requirement_direction holds requirement_cell g q 2)
    ∷ (requirement_price holds requirement_cell g q 3)
    ∷ (requirement_cost holds requirement_cell g q 4)
    ∷ (requirement_enabled holds requirement_cell g q 5)
    ∷ (requirement_used holds requirement_cell g q 6)
    ∷ []

abbrev pub region_laid : Given → ℕ → List ℕ
region_laid g r = laid (region_filled g r)

abbrev pub unit_laid : Given → ℕ → List ℕ
unit_laid g j = laid (unit_filled g j)

abbrev pub requirement_laid : Given → ℕ → List ℕ
requirement_laid g q = laid (requirement_filled g q)

-- the table of contents first, then the bodies in the same order, without gaps
unfoldable pub book_laid : Given → List ℕ
book_laid g =
    laid (contents_filled g.units g.requirements)
    ++ (laid (settings_filled g)
    ++ (strung 0 regions (region_laid g)
    ++ (strung 0 g.units (unit_laid g)
    ++ strung 0 g.requirements (requirement_laid g))))

-- ---- the refusals
abbrev pub settings_given : Given → Reply Settings
settings_given g =
    settings_judged (fits settings_smoothing g.smoothing && fits settings_limit g.limit && fits settings_percent g.percent && fits settings_interval
    g.interval) (laid (settings_filled g))

abbrev pub region_widths : Given → ℕ → RegionWidths
region_widths g r = record {
  separation = fits region_separation (region_cell g r 0);
  amounts = fits_signed region_before (region_cell g r 1) && fits region_generation (region_cell g r 2);
}

abbrev pub region_given : Given → ℕ → Reply Region
region_given g r = region_judged (region_widths g r) r (region_laid g r)

abbrev pub unit_widths : Given → ℕ → UnitWidths
unit_widths g j = record {
  header =
      fits unit_region (unit_cell g j 1) && fits unit_kind (unit_cell g j 2) && fits_signed unit_trajectory (unit_cell g j 3) && fits_signed unit_trajectory
      (unit_cell g j 4);
  group = fits unit_group (unit_cell g j 5);
  number = fits unit_number (unit_cell g j 0);
}

abbrev pub unit_given : ℕ → Given → ℕ → Reply Unit
unit_given least g j = unit_judged (unit_widths g j) least (unit_laid g j)

-- all seven fields of a requirement fit
abbrev pub requirement_widths : Given → ℕ → Bool
requirement_widths g q =
    fits requirement_number (requirement_cell g q 0) && fits requirement_set (requirement_cell g q 1) && fits requirement_direction (requirement_cell g q 2)
    && fits requirement_price (requirement_cell g q 3) && fits requirement_cost (requirement_cell g q 4) && fits requirement_enabled (requirement_cell g q 5)
    && fits requirement_used (requirement_cell g q 6)

abbrev pub requirement_given : ℕ → Bool → Given → ℕ → Reply Requirement
requirement_given least last g q = requirement_judged (requirement_widths g q) least last (requirement_laid g q)

-- n regions from r on; n units from j on, behind others, the last of them first; n requirements likewise
unfoldable pub regions_given : ℕ → Given → ℕ → LocatedReply (List Region)
regions_given zero g r = taken []
regions_given (suc n) g r = do
  first ← at (suc r) (region_given g r)
  rest ← regions_given n g (suc r)
  taken (first ∷ rest)

unfoldable pub units_given : ℕ → ℕ → List Unit → Given → ℕ → LocatedReply (List Unit)
units_given zero least before g j = taken []
units_given (suc n) least before g j = do
  first ← at (suc j) (unit_given least g j >>= in_its_group before)
  rest ← units_given n (suc first.number) (first ∷ before) g (suc j)
  taken (first ∷ rest)

unfoldable pub requirements_given : ℕ → ℕ → Given → ℕ → LocatedReply (List Requirement)
requirements_given zero least g q = taken []
requirements_given (suc n) least g q = do
  first ← at (suc q) (requirement_given least (eqb n 0) g q)
  rest ← requirements_given n (suc first.number) g (suc q)
  taken (first ∷ rest)

-- the fields in the order in which they stand in the book
unfoldable pub book_given : Given → LocatedReply Book
book_given g = do
  s ← at 1 (settings_given g)
  rs ← regions_given regions g 0
  us ← units_given g.units 0 [] g 0
  qs ← requirements_given g.requirements 0 g 0
  taken (record { settings = s; regions = rs; roster = us; requirements = qs })

-- ---- the call
-- how long a book of so many units and requirements is
abbrev pub book_size : ℕ → ℕ → ℕ
book_size units requirements = requirement_start units + requirements * requirement_size

-- no list is shorter than the counts ask, nor the buffer, which has so many bytes
abbrev pub regions_long : Given → Bool
regions_long g =
    leb (region_row * regions) (length g.region_rows) && leb (quality_bytes * regions) (length g.region_qualities) && leb (points * regions) (length
    g.frequencies)

abbrev pub units_long : Given → Bool
units_long g =
    leb (unit_row * g.units) (length g.unit_rows) && leb (quality_bytes * g.units) (length g.unit_qualities) && leb (points * g.units) (length
    g.readings)

abbrev pub long_enough : Given → ℕ → Bool
long_enough g room =
    leb (book_size g.units g.requirements) room && (regions_long g && (units_long g && leb (requirement_row * g.requirements) (length
    g.requirement_rows)))

abbrev pub counts_fine : Given → Bool
counts_fine g = leb g.units most_units && leb 1 g.requirements && leb g.requirements most_requirements

-- what is written into a buffer of so many bytes: 12 by the counts as given, then 5, then the fields; everything is tested before the first byte is written
unfoldable pub written : Given → ℕ → LocatedReply (List ℕ)
written g room =
    unless (long_enough g room) (located 0 TooShort)
    (unless (counts_fine g) (located 0 WrongCount)
    (book_given g >>= λ b. taken (book_laid g)))
