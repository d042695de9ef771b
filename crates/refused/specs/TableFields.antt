-- The table of contents (01, The book): a book of these 56 bytes alone. A table that is taken gives 1 at the settings, since nothing follows it;
-- what the table is refused for has no place.
use Rattle.std.specs.Prelude.{◌≡◌, refl, List, [], ◌∷◌, ◌++◌, ℕ, ◌+◌, ◌*◌, take}
use Rattle.rules.specs.Layout.{unit_entry, requirement_entry}
use Rattle.rules.specs.Laid.{laid}
use Rattle.rules.specs.Written.{entry_filled}
use Rattle.books.specs.Computing.{computing}
use Rattle.books.specs.Told.{no}
use Rattle.refused.specs.Changed.{refusal, base, with, all_changed, Alone, Together}

pub unchanged : Together 0 56 (no 1 1 0) []
unfolding computing all_changed
unchanged = record { refusal_is = refl }

-- mark 46 43 46 31
pub mark : Alone 0 56 (no 2 0 0) (with 0 1 0x45 ∷ with 1 1 0x44 ∷ with 2 1 0x47 ∷ with 3 1 0x32 ∷ [])
unfolding computing
mark = record { refusals = refl }

-- a table cut short is refused with 1, whatever its bytes
pub cut_short : Alone 0 55 (no 1 0 0) (with 0 1 0x45 ∷ [])
unfolding computing
cut_short = record { refusals = refl }

-- u16 entries (4), u16 zero
pub entries_and_zero : Alone 0 56 (no 3 0 0) (with 4 2 3 ∷ with 4 2 5 ∷ with 4 2 260 ∷ with 6 2 1 ∷ with 6 2 256 ∷ [])
unfolding computing
entries_and_zero = record { refusals = refl }

-- u16 kind (1 to 4 in order)
pub kinds :
    Alone 0 56 (no 3 0 0)
    (with 8 2 0 ∷ with 8 2 2 ∷ with 8 2 257
    ∷ with 20 2 1 ∷ with 20 2 3 ∷ with 20 2 258
    ∷ with 32 2 2 ∷ with 32 2 4 ∷ with 32 2 259
    ∷ with 44 2 3 ∷ with 44 2 5 ∷ with 44 2 260
    ∷ [])
unfolding computing
kinds = record { refusals = refl }

-- u16 items: one settings record, five of frequency, 0 to 512 units, 1 to 32 requirements; 5 precedes 3, though the length is wrong too
pub items :
    Alone 0 56 (no 5 0 0)
    (with 10 2 0 ∷ with 10 2 2 ∷ with 10 2 257
    ∷ with 22 2 4 ∷ with 22 2 6 ∷ with 22 2 261
    ∷ with 34 2 513 ∷ with 34 2 65_535
    ∷ with 46 2 0 ∷ with 46 2 33 ∷ with 46 2 258
    ∷ [])
unfolding computing
items = record { refusals = refl }

-- a count within its limits that does not fit the length
pub other_items : Alone 0 56 (no 3 0 0) (with 34 2 0 ∷ with 34 2 512 ∷ with 46 2 1 ∷ with 46 2 32 ∷ [])
unfolding computing
other_items = record { refusals = refl }

-- u32 offset: where the body before it ends, first 56
pub offsets :
    Alone 0 56 (no 3 0 0)
    (with 12 4 55 ∷ with 12 4 57 ∷ with 12 4 0x01000038
    ∷ with 24 4 63 ∷ with 24 4 65 ∷ with 24 4 0x01000040
    ∷ with 36 4 1_903 ∷ with 36 4 1_905 ∷ with 36 4 0x01000770
    ∷ with 48 4 2_647 ∷ with 48 4 2_649 ∷ with 48 4 0x01000a58
    ∷ [])
unfolding computing
offsets = record { refusals = refl }

-- u32 length: items times record size
pub lengths :
    Alone 0 56 (no 3 0 0)
    (with 16 4 7 ∷ with 16 4 9 ∷ with 16 4 0x01000008
    ∷ with 28 4 1_839 ∷ with 28 4 1_841 ∷ with 28 4 0x01000730
    ∷ with 40 4 743 ∷ with 40 4 745 ∷ with 40 4 0x010002e8
    ∷ with 52 4 47 ∷ with 52 4 49 ∷ with 52 4 0x01000030
    ∷ [])
unfolding computing
lengths = record { refusals = refl }

-- the first wrong field by its place gives the number: the mark, the entry count, an offset, a length; a count before the next entry's kind
pub mark_first : Together 0 56 (no 2 0 0) (with 3 1 0x32 ∷ with 4 2 5 ∷ [])
unfolding computing all_changed
mark_first = record { refusal_is = refl }

pub entries_first : Together 0 56 (no 3 0 0) (with 4 2 5 ∷ with 10 2 2 ∷ [])
unfolding computing all_changed
entries_first = record { refusal_is = refl }

pub offset_first : Together 0 56 (no 3 0 0) (with 12 4 57 ∷ with 22 2 6 ∷ [])
unfolding computing all_changed
offset_first = record { refusal_is = refl }

pub length_first : Together 0 56 (no 3 0 0) (with 28 4 1_841 ∷ with 34 2 513 ∷ [])
unfolding computing all_changed
length_first = record { refusal_is = refl }

pub count_first : Together 0 56 (no 5 0 0) (with 34 2 513 ∷ with 44 2 5 ∷ [])
unfolding computing all_changed
count_first = record { refusal_is = refl }

-- tables for so many units and requirements, with the offsets and lengths that belong to them
abbrev table : ℕ → ℕ → List ℕ
table units requirements =
    take 32 base
    ++ laid (entry_filled unit_entry 3 units 1_904 372 (entry_filled requirement_entry 4 requirements (1_904 + units * 372) 24 []))

pub record Counts : Type 0 where
  pub no_units : refusal (table 0 1) ≡ no 1 1 0
  pub most_units : refusal (table 512 1) ≡ no 1 1 0
  pub units_over : refusal (table 513 1) ≡ no 5 0 0
  pub no_requirements : refusal (table 0 0) ≡ no 5 0 0
  pub most_requirements : refusal (table 0 32) ≡ no 1 1 0
  pub requirements_over : refusal (table 0 33) ≡ no 5 0 0

pub counts : Counts
unfolding computing
counts =
    record {
      no_units = refl;
      most_units = refl;
      units_over = refl;
      no_requirements = refl;
      most_requirements = refl;
      requirements_over = refl;
    }
