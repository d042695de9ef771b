-- Where each field of the book's records stands, and how wide it is (01, The book), said once: the reader takes each field at its place, and the writer (02,
-- R-4) puts the same fields one behind the other, without gaps.
use Rattle.std.specs.Prelude.{List, ℕ, ◌+◌, ◌*◌, ℤ}
use Rattle.rules.specs.Quantities.{points}
use Rattle.rules.specs.Bytes.{number_at, signed}

-- a field: where it starts in its record, how many numbers stand there one behind the other, and how many bytes each has
pub record Field : Type 0 where
  pub place : ℕ
  pub count : ℕ
  pub width : ℕ

abbrev pub one : ℕ → ℕ → Field
one width place = record { place = place; count = 1; width = width }

abbrev pub many : ℕ → ℕ → ℕ → Field
many count width place = record { place = place; count = count; width = width }

-- the number of a field, and the i-th of several, from 0; the same read as signed
abbrev pub number_of : Field → List ℕ → ℕ
number_of f bs = number_at f.width f.place bs

abbrev pub number_in : Field → ℕ → List ℕ → ℕ
number_in f i bs = number_at f.width (f.place + f.width * i) bs

abbrev pub integer_of : Field → List ℕ → ℤ
integer_of f bs = signed f.width (number_of f bs)

abbrev pub integer_in : Field → ℕ → List ℕ → ℤ
integer_in f i bs = signed f.width (number_in f i bs)

-- ---- the table of contents: the mark, u16 entries, u16 zero; an entry: u16 kind, u16 items, u32 offset, u32 length
abbrev pub book_mark : Field
book_mark = one 4 0

abbrev pub entry_count : Field
entry_count = one 2 4

abbrev pub zero_field : Field
zero_field = one 2 6

abbrev pub entry_kind : ℕ → Field
entry_kind entry = one 2 entry

abbrev pub entry_items : ℕ → Field
entry_items entry = one 2 (entry + 2)

abbrev pub entry_offset : ℕ → Field
entry_offset entry = one 4 (entry + 4)

abbrev pub entry_length : ℕ → Field
entry_length entry = one 4 (entry + 8)

-- where its four entries start
abbrev pub settings_entry : ℕ
settings_entry = 8

abbrev pub frequency_entry : ℕ
frequency_entry = 20

abbrev pub unit_entry : ℕ
unit_entry = 32

abbrev pub requirement_entry : ℕ
requirement_entry = 44

-- ---- kind 1: u16 smoothing a, u8 bad-frequency limit, u8 bad-unit percent, u32 interval number
abbrev pub settings_smoothing : Field
settings_smoothing = one 2 0

abbrev pub settings_limit : Field
settings_limit = one 1 2

abbrev pub settings_percent : Field
settings_percent = one 1 3

abbrev pub settings_interval : Field
settings_interval = one 4 4

-- ---- kind 2: u8 region, u8 separation, 10 quality bytes, i32 FM before the interval, u32 generation, six i64 residual defaults, 75 u32 frequencies
abbrev pub region_position : Field
region_position = one 1 0

abbrev pub region_separation : Field
region_separation = one 1 1

abbrev pub region_quality : Field
region_quality = many 10 1 2

abbrev pub region_before : Field
region_before = one 4 12

abbrev pub region_generation : Field
region_generation = one 4 16

abbrev pub region_defaults : Field
region_defaults = many 6 8 20

abbrev pub region_frequencies : Field
region_frequencies = many points 4 68

-- ---- kind 3: u16 unit number, u8 region, u8 kind, i32 start and end, six i64 defaults, 10 quality bytes, u16 group, 75 i32 readings
abbrev pub unit_number : Field
unit_number = one 2 0

abbrev pub unit_region : Field
unit_region = one 1 2

abbrev pub unit_kind : Field
unit_kind = one 1 3

abbrev pub unit_trajectory : Field
unit_trajectory = many 2 4 4

abbrev pub unit_defaults : Field
unit_defaults = many 6 8 12

abbrev pub unit_quality : Field
unit_quality = many 10 1 60

abbrev pub unit_group : Field
unit_group = one 2 70

abbrev pub unit_readings : Field
unit_readings = many points 4 72

-- ---- kind 4: u16 number, u8 region set, u8 direction, u32 price, u64 cost, u32 enabled and u32 used
abbrev pub requirement_number : Field
requirement_number = one 2 0

abbrev pub requirement_set : Field
requirement_set = one 1 2

abbrev pub requirement_direction : Field
requirement_direction = one 1 3

abbrev pub requirement_price : Field
requirement_price = one 4 4

abbrev pub requirement_cost : Field
requirement_cost = one 8 8

abbrev pub requirement_enabled : Field
requirement_enabled = one 4 16

abbrev pub requirement_used : Field
requirement_used = one 4 20
