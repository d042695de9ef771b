-- A book from the bytes to the listing: dropped points count for reliability, for RCR and for the sign of the requirement (02, R-3). What each requirement
-- gives is a theorem of its own, and the listing follows from them. The figures are the second program's (tests/worked/).
use Rattle.std.specs.Prelude.{◌≡◌, refl, List, ◌++◌, ℕ, get_or}
use Rattle.std.proofs.Common.{◌∙◌}
use Rattle.rules.specs.Refusals.{taken}
use Rattle.rules.specs.WholeBook.{book}
use Rattle.rules.specs.Answer.{answer}
use Rattle.rules.specs.Text.{text, digits, words}
use Rattle.rules.specs.Listing.{answer_lines, joined, listing, settle}
use Rattle.books.specs.Writing.{book_bytes, settled}
use Rattle.books.specs.PaperBook.{requirement}
use Rattle.books.specs.Computing.{computing}
use Rattle.books.specs.WorkedBooks.{dropped_reliability}

-- the lines of a requirement, by its place in the book
abbrev lines : ℕ → List ℕ
lines i = answer_lines (answer dropped_reliability (get_or dropped_reliability.requirements i requirement))

pub read : book (book_bytes dropped_reliability) ≡ taken dropped_reliability
unfolding computing
read = refl

pub raise_shares : lines 0
    ≡ text "requirement 1 raise 5775 578 429 572 0 0\n"
    ++ (text "unit 1 live -10125000 -183673469 -106 -79 -286\n"
    ++ (text "unit 2 live -45000000 -816326531 -472 -350 0\n"
    ++ text "residual live 55125000 1000000000 578 0 -286\n"))
unfolding computing
raise_shares = refl

pub lower_shares : lines 1
    ≡ text "requirement 2 lower 7050 705 715 286 0 0\n"
    ++ (text "unit 1 live 87750000 709090909 500 0 -143\n"
    ++ (text "unit 2 live 36000000 290909091 205 0 0\n"
    ++ text "residual live -123750000 -1000000000 -705 -715 -143\n"))
unfolding computing
lower_shares = refl

pub dropped_reliability_listing : settle (book_bytes dropped_reliability)
    ≡ text "interval 113\n"
    ++ (text "requirement 1 raise 5775 578 429 572 0 0\n"
    ++ (text "unit 1 live -10125000 -183673469 -106 -79 -286\n"
    ++ (text "unit 2 live -45000000 -816326531 -472 -350 0\n"
    ++ (text "residual live 55125000 1000000000 578 0 -286\n"
    ++ (text "requirement 2 lower 7050 705 715 286 0 0\n"
    ++ (text "unit 1 live 87750000 709090909 500 0 -143\n"
    ++ (text "unit 2 live 36000000 290909091 205 0 0\n"
    ++ text "residual live -123750000 -1000000000 -705 -715 -143\n")))))))
unfolding listing joined text digits words
dropped_reliability_listing = settled dropped_reliability read ∙ rw (raise_shares, lower_shares)
