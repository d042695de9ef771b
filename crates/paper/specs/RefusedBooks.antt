-- Refusals of the paper's book with a byte or two changed, each with number, place and t, and the order in which they are tested (01, Numbers the box can say
-- no with; 02, R-1): 5 before 3 at one count field, 81 to 84 before 9, 4 after the last requirement's fields.
use Rattle.std.specs.Prelude.{◌≡◌, refl, List, [], ◌∷◌, ◌++◌, ℕ, set}
use Rattle.rules.specs.WholeBook.{book}
use Rattle.books.specs.Writing.{book_bytes}
use Rattle.books.specs.PaperBook.{paper_book}
use Rattle.books.specs.Computing.{computing}
use Rattle.books.specs.Told.{no, told}

-- the book's bytes with one put at a place
abbrev with : ℕ → ℕ → List ℕ → List ℕ
with place byte bs = set bs place byte

abbrev paper : List ℕ
paper = book_bytes (paper_book 7)

-- where records start: the units at 1904 and 2276, the requirement at 2648
pub record RefusedBooks : Type 0 where
  pub unchanged : told (book paper) ≡ no 0 0 0
  pub mark : told (book (with 3 50 paper)) ≡ no 2 0 0
  pub entries : told (book (with 4 5 paper)) ≡ no 3 0 0
  pub zero_field : told (book (with 7 1 paper)) ≡ no 3 0 0
  -- kind 2 where kind 1 belongs; a count of 2 settings, which would also make the length wrong; an offset and a length off by one
  pub kind : told (book (with 8 2 paper)) ≡ no 3 0 0
  pub count : told (book (with 10 2 paper)) ≡ no 5 0 0
  pub offset : told (book (with 12 57 paper)) ≡ no 3 0 0
  pub length : told (book (with 16 9 paper)) ≡ no 3 0 0
  -- 513 units and a wrong length: 5 before 3; a wrong kind and 513 units: 3 first, by place
  pub count_first : told (book (with 34 1 (with 35 2 paper))) ≡ no 5 0 0
  pub place_first : told (book (with 32 4 (with 34 1 (with 35 2 paper)))) ≡ no 3 0 0
  -- smoothing 0; region 1 where region 0 belongs; a spare quality bit
  pub smoothing : told (book (with 56 0 (with 57 0 paper))) ≡ no 6 1 0
  pub region : told (book (with 64 1 paper)) ≡ no 71 1 0
  pub spare_bit : told (book (with 75 15 paper)) ≡ no 73 1 0
  -- a bad point that holds a value
  pub bad_point : told (book (with 66 254 paper)) ≡ no 74 1 1
  -- unit 2 numbered 1: 9; with kind 2 as well: 81 first
  pub not_rising : told (book (with 2276 1 paper)) ≡ no 9 2 0
  pub unit_field_first : told (book (with 2276 1 (with 2279 2 paper))) ≡ no 81 2 0
  -- an empty set; with a byte more as well: 10 first
  pub empty_set : told (book (with 2650 0 paper)) ≡ no 10 1 0
  pub fields_before_end : told (book (with 2650 0 paper ++ (0 ∷ []))) ≡ no 10 1 0
  pub bytes_follow : told (book (paper ++ (0 ∷ []))) ≡ no 4 1 0

pub refused_books : RefusedBooks
unfolding computing
refused_books =
    record {
      unchanged = refl;
      mark = refl;
      entries = refl;
      zero_field = refl;
      kind = refl;
      count = refl;
      offset = refl;
      length = refl;
      count_first = refl;
      place_first = refl;
      smoothing = refl;
      region = refl;
      spare_bit = refl;
      bad_point = refl;
      not_rising = refl;
      unit_field_first = refl;
      empty_set = refl;
      fields_before_end = refl;
      bytes_follow = refl;
    }
