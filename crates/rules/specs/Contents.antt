-- The table of contents (01, The book): the first 56 bytes, or the refusal that they get.
use Rattle.std.specs.Prelude.{◌&&◌, List, ℕ, ◌+◌, ◌*◌, eqb, leb, length}
use Rattle.rules.specs.declared.Refusal.TheVariants.{EndsEarly, WrongMark, WrongTable, WrongCount}
use Rattle.rules.specs.Quantities.{most_units, most_requirements}
use Rattle.rules.specs.Layout.{
  number_of,
  book_mark,
  entry_count,
  zero_field,
  entry_kind,
  entry_items,
  entry_offset,
  entry_length,
  settings_entry,
  frequency_entry,
  unit_entry,
  requirement_entry,
}
use Rattle.rules.specs.Refusals.{Reply, taken, unless}

-- sizes of the table and of the four kinds of record
abbrev pub contents_size : ℕ
contents_size = 56

abbrev pub settings_size : ℕ
settings_size = 8

abbrev pub frequency_size : ℕ
frequency_size = 368

abbrev pub unit_size : ℕ
unit_size = 372

abbrev pub requirement_size : ℕ
requirement_size = 24

-- what the table announces and the limits leave open
pub record Counts : Type 0 where
  pub units : ℕ
  pub requirements : ℕ

-- bytes 46 43 46 31, read as a number
abbrev pub mark : ℕ
mark = 0x31464346

-- the items of an entry, which starts at a place of the table
abbrev pub items : ℕ → List ℕ → ℕ
items place bs = number_of (entry_items place) bs

-- an entry: u16 kind, u16 items, u32 offset, u32 length. Offset is where the body before it ends; length is items times record size
abbrev pub entry : {A : Type 0} → ℕ → ℕ → ℕ → ℕ → ℕ → ℕ → List ℕ → Reply A → Reply A
entry place kind least most start size bs rest =
    unless (eqb (number_of (entry_kind place) bs) kind) WrongTable
    (unless (leb least (items place bs) && leb (items place bs) most) WrongCount
    (unless (eqb (number_of (entry_offset place) bs) start) WrongTable
    (unless (eqb (number_of (entry_length place) bs) (items place bs * size)) WrongTable rest)))

-- where the bodies of kinds 2, 3 and 4 start
abbrev pub frequency_start : ℕ
frequency_start = 64

abbrev pub unit_start : ℕ
unit_start = 1904

abbrev pub requirement_start : ℕ → ℕ
requirement_start units = unit_start + units * unit_size

-- mark, u16 entries (4), u16 zero; then four entries of 12 bytes, kinds 1 to 4 in order
unfoldable pub contents : List ℕ → Reply Counts
contents bs =
    unless (leb contents_size (length bs)) EndsEarly
    (unless (eqb (number_of book_mark bs) mark) WrongMark
    (unless (eqb (number_of entry_count bs) 4) WrongTable
    (unless (eqb (number_of zero_field bs) 0) WrongTable
    (entry settings_entry 1 1 1 contents_size settings_size bs
    (entry frequency_entry 2 5 5 frequency_start frequency_size bs
    (entry unit_entry 3 0 most_units unit_start unit_size bs
    (entry requirement_entry 4 1 most_requirements (requirement_start (items unit_entry bs)) requirement_size bs
    (taken (record { units = items unit_entry bs; requirements = items requirement_entry bs })))))))))
