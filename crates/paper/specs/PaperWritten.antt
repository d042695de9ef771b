-- The paper's book (01, One listing in full) written from its values (02, R-4): its 2,672 bytes in a buffer of that size or longer, 12 in one a byte shorter;
-- and the same without a unit, 1,928 bytes.
use Rattle.std.specs.Prelude.{◌≡◌, refl, [], length}
use Rattle.rules.specs.Refusals.{taken}
use Rattle.rules.specs.Book.{Book}
use Rattle.rules.specs.Given.{Given}
use Rattle.rules.specs.Written.{written}
use Rattle.books.specs.Writing.{book_bytes}
use Rattle.books.specs.PaperBook.{paper_book}
use Rattle.books.specs.PaperValues.{paper_values}
use Rattle.books.specs.Computing.{computing}
use Rattle.books.specs.Told.{no, told}

pub in_full : written paper_values 2_672 ≡ taken (book_bytes (paper_book 7))
unfolding computing
in_full = refl

pub in_a_longer_buffer : written paper_values 2_700 ≡ taken (book_bytes (paper_book 7))
unfolding computing
in_a_longer_buffer = refl

pub a_byte_short : told (written paper_values 2_671) ≡ no 12 0 0
unfolding computing
a_byte_short = refl

-- no unit is counted: what the lists hold of units is not looked at
abbrev no_unit : Given
no_unit = record {
  smoothing = paper_values.smoothing;
  limit = paper_values.limit;
  percent = paper_values.percent;
  interval = paper_values.interval;
  region_rows = paper_values.region_rows;
  region_qualities = paper_values.region_qualities;
  frequencies = paper_values.frequencies;
  units = 0;
  unit_rows = paper_values.unit_rows;
  unit_qualities = [];
  readings = [];
  requirements = 1;
  requirement_rows = paper_values.requirement_rows;
}

abbrev without_units : Book
without_units =
    let b = paper_book 7 in
    record { settings = b.settings; regions = b.regions; roster = []; requirements = b.requirements }

pub record NoUnit : Type 0 where
  pub bytes : written no_unit 1_928 ≡ taken (book_bytes without_units)
  pub size : length (book_bytes without_units) ≡ 1_928
  pub a_byte_short : told (written no_unit 1_927) ≡ no 12 0 0

pub without_a_unit : NoUnit
unfolding computing
without_a_unit = record { bytes = refl; size = refl; a_byte_short = refl }
