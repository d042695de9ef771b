-- A group of one is its unit (02, R-5): the paper's book with each unit a group of its own gives the listing that it gives without groups.
use Rattle.std.specs.Prelude.{◌≡◌, refl, ◌++◌}
use Rattle.std.proofs.Common.{sym, ◌∙◌}
use Rattle.rules.specs.Text.{text}
use Rattle.rules.specs.Listing.{settle}
use Rattle.books.specs.Writing.{book_bytes}
use Rattle.books.specs.PaperBook.{paper_book}
use Rattle.books.specs.GroupBooks.{groups_of_one}
use Rattle.books.specs.Computing.{computing}
use Rattle.paper.specs.PaperListing.{paper_lines, paper_listing}

pub in_full : settle (book_bytes groups_of_one) ≡ text "interval 7\n" ++ paper_lines
unfolding computing
in_full = refl

pub as_without : settle (book_bytes groups_of_one) ≡ settle (book_bytes (paper_book 7))
as_without = in_full ∙ sym paper_listing.in_full
