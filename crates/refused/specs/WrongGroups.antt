-- Refusal 16 (02, R-5), from the bytes of whole books to what is printed. The place is that of the record that returns, changes region or holds the default.
use Rattle.std.specs.Prelude.{◌≡◌, refl, true, List, [], ◌∷◌, ℕ, pos}
use Rattle.rules.specs.declared.Kind.TheVariants.{Generation}
use Rattle.rules.specs.Book.{ByDirection, Defaults, Unit}
use Rattle.rules.specs.Text.{text}
use Rattle.rules.specs.Listing.{settle}
use Rattle.books.specs.Writing.{book_bytes, flat}
use Rattle.books.specs.PaperBook.{zeros, paper_book}
use Rattle.books.specs.WorkedBooks.{minus, book}
use Rattle.books.specs.Computing.{computing}

-- a unit of a region and a group, 0 meaning none
abbrev with_defaults : ByDirection Defaults → ℕ → ℕ → ℕ → Unit
with_defaults defaults number r g =
    record {
      number = number;
      region = r;
      kind = Generation;
      start = pos 0;
      end = pos 0;
      defaults = defaults;
      quality = flat true;
      group = g;
      reading = flat (pos 0);
    }

abbrev of : ℕ → ℕ → ℕ → Unit
of = with_defaults zeros

-- what the paper's book prints with these units
abbrev printed : List Unit → List ℕ
printed us = settle (book_bytes (book (paper_book 7).settings (paper_book 7).regions us (paper_book 7).requirements))

-- left for another group
pub behind_a_group : printed (of 1 0 5 ∷ of 2 0 6 ∷ of 3 0 5 ∷ []) ≡ text "refused 16 3 0\n"
unfolding computing
behind_a_group = refl

-- left for a unit without one; the largest group number
pub behind_a_unit : printed (of 1 0 65_535 ∷ of 2 0 65_535 ∷ of 3 0 0 ∷ of 4 0 65_535 ∷ []) ≡ text "refused 16 4 0\n"
unfolding computing
behind_a_unit = refl

-- neither the first nor the last of the groups that were left
pub behind_several : printed (of 1 0 7 ∷ of 2 0 6 ∷ of 3 0 0 ∷ of 4 0 5 ∷ of 5 0 6 ∷ []) ≡ text "refused 16 5 0\n"
unfolding computing
behind_several = refl

-- left, and in another region
pub behind_a_region : printed (of 1 0 5 ∷ of 2 1 6 ∷ of 3 1 5 ∷ []) ≡ text "refused 16 3 0\n"
unfolding computing
behind_a_region = refl

pub third_in_another_region : printed (of 1 4 5 ∷ of 2 4 5 ∷ of 3 3 5 ∷ []) ≡ text "refused 16 3 0\n"
unfolding computing
third_in_another_region = refl

-- the primary holds each of the six
pub third_with_a_default :
    printed (with_defaults (minus 1 2 3 4 5 6) 1 2 5 ∷ of 2 2 5 ∷ with_defaults (minus 0 0 0 0 1 0) 3 2 5 ∷ []) ≡ text "refused 16 3 0\n"
unfolding computing
third_with_a_default = refl
