-- One listing in full (01): the bytes of the book give exactly the listing's text; with interval 8 the same but for its first line; cut by its last
-- byte it is refused with 1, with one byte more with 4.
use Rattle.std.specs.Prelude.{◌≡◌, refl, List, [], ◌∷◌, ◌++◌, ℕ, length, take}
use Rattle.rules.specs.Text.{text}
use Rattle.rules.specs.Listing.{settle}
use Rattle.books.specs.Writing.{book_bytes}
use Rattle.books.specs.PaperBook.{paper_book}
use Rattle.books.specs.Computing.{computing}

-- what the listing has after its first line
abbrev pub paper_lines : List ℕ
paper_lines =
    text "requirement 1 raise 7500 100 333 667 0 0\n"
    ++ (text "unit 1 live 11250000000 1000000000 100 0 -223\n"
    ++ (text "unit 2 live -3375000000 -300000000 -30 -100 -222\n"
    ++ text "residual live -7875000000 -700000000 -70 -233 -222\n"))

pub record PaperListing : Type 0 where
  pub size : length (book_bytes (paper_book 7)) ≡ 2_672
  pub in_full : settle (book_bytes (paper_book 7)) ≡ text "interval 7\n" ++ paper_lines
  pub interval_8 : settle (book_bytes (paper_book 8)) ≡ text "interval 8\n" ++ paper_lines
  pub cut : settle (take 2_671 (book_bytes (paper_book 7))) ≡ text "refused 1 1 0\n"
  pub longer : settle (book_bytes (paper_book 7) ++ (0 ∷ [])) ≡ text "refused 4 1 0\n"

pub paper_listing : PaperListing
unfolding computing
paper_listing = record { size = refl; in_full = refl; interval_8 = refl; cut = refl; longer = refl }
