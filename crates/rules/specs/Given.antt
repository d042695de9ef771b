-- What is handed in to be written as a book (02, R-4): the settings by value; for each region, unit and requirement a row of its small fields, one row behind
-- the other, and the long fields in lists of their own type. Lists may be longer than the counts ask.
use Rattle.std.specs.Prelude.{List, ℕ, ◌+◌, ◌*◌, ℤ, pos, get_or}
use Rattle.rules.specs.Quantities.{points}

pub record Given : Type 0 where
  pub smoothing : ℤ
  pub limit : ℤ
  pub percent : ℤ
  pub interval : ℤ
  pub region_rows : List ℤ
  pub region_qualities : List ℕ
  pub frequencies : List ℕ
  pub units : ℕ
  pub unit_rows : List ℤ
  pub unit_qualities : List ℕ
  pub readings : List ℤ
  pub requirements : ℕ
  pub requirement_rows : List ℤ

-- how many numbers a row has, and how many quality bytes a record
abbrev pub region_row : ℕ
region_row = 9

abbrev pub unit_row : ℕ
unit_row = 12

abbrev pub requirement_row : ℕ
requirement_row = 7

abbrev pub quality_bytes : ℕ
quality_bytes = 10

-- a region's separation, FM before the interval, generation, then six defaults; its number is its position
abbrev pub region_cell : Given → ℕ → ℕ → ℤ
region_cell g r column = get_or g.region_rows (region_row * r + column) (pos 0)

-- a unit's number, region, kind, start, end, group, then six defaults
abbrev pub unit_cell : Given → ℕ → ℕ → ℤ
unit_cell g j column = get_or g.unit_rows (unit_row * j + column) (pos 0)

-- a requirement's number, set, direction, price, cost, enabled, used
abbrev pub requirement_cell : Given → ℕ → ℕ → ℤ
requirement_cell g q column = get_or g.requirement_rows (requirement_row * q + column) (pos 0)

-- the i-th quality byte of a record, its t-th frequency or reading
abbrev pub region_mark : Given → ℕ → ℕ → ℕ
region_mark g r i = get_or g.region_qualities (quality_bytes * r + i) 0

abbrev pub unit_mark : Given → ℕ → ℕ → ℕ
unit_mark g j i = get_or g.unit_qualities (quality_bytes * j + i) 0

abbrev pub frequency_given : Given → ℕ → ℕ → ℕ
frequency_given g r t = get_or g.frequencies (points * r + t) 0

abbrev pub reading_given : Given → ℕ → ℕ → ℤ
reading_given g j t = get_or g.readings (points * j + t) (pos 0)
