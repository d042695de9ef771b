-- Both sides of the edges of reliability, for lower and for raise, from the bytes to the listing: what each requirement gives is a theorem of its own, and the
-- listing follows from them. The figures are the second program's (tests/worked/).
use Rattle.std.specs.Prelude.{◌≡◌, refl, List, ◌++◌, ℕ, get_or}
use Rattle.std.proofs.Common.{◌∙◌}
use Rattle.rules.specs.Refusals.{taken}
use Rattle.rules.specs.WholeBook.{book}
use Rattle.rules.specs.Answer.{answer}
use Rattle.rules.specs.Text.{text, digits, words}
use Rattle.rules.specs.Listing.{answer_lines, joined, listing, settle}
use Rattle.books.specs.Writing.{book_bytes, settled}
use Rattle.books.specs.PaperBook.{requirement}
use Rattle.books.specs.Computing.{computing}
use Rattle.books.specs.WorkedBooks.{edges_of_reliability}

-- the lines of a requirement, by its place in the book
abbrev lines : ℕ → List ℕ
lines i = answer_lines (answer edges_of_reliability (get_or edges_of_reliability.requirements i requirement))

pub read : book (book_bytes edges_of_reliability) ≡ taken edges_of_reliability
unfolding computing
read = refl

-- one FM of -10,001 and six of -1, not in a row, most of them at bad points
pub lower_seven_points : lines 0
    ≡ text "requirement 0 lower 525 0 20 30 0 0\n"
    ++ (text "unit 1 live 753225 1000000000 0 0 0\n"
    ++ text "residual live -753225 -1000000000 0 -20 -30\n")
unfolding computing
lower_seven_points = refl

pub lower_six_points : lines 1
    ≡ text "requirement 1 lower 0 0 0 50 0 0\n"
    ++ text "residual default -24 -1000000000 0 0 -50\n"
unfolding computing
lower_six_points = refl

-- FM -10,000 at all points but the last, where it is 10,001
pub lower_none_beyond : lines 2
    ≡ text "requirement 2 lower 0 0 0 50 0 0\n"
    ++ text "residual default -34 -1000000000 0 0 -50\n"
unfolding computing
lower_none_beyond = refl

-- the same mirrored, in a row; of six points the others need lower
pub raise_seven_points : lines 3
    ≡ text "requirement 3 raise 525 0 20 30 0 0\n"
    ++ (text "unit 2 live 752100 1000000000 0 0 0\n"
    ++ text "residual live -752100 -1000000000 0 -20 -30\n")
unfolding computing
raise_seven_points = refl

pub raise_six_points : lines 4
    ≡ text "requirement 4 raise 0 0 0 50 0 0\n"
    ++ text "residual default -51 -1000000000 0 0 -50\n"
unfolding computing
raise_six_points = refl

pub edges_of_reliability_listing : settle (book_bytes edges_of_reliability)
    ≡ text "interval 110\n"
    ++ (text "requirement 0 lower 525 0 20 30 0 0\n"
    ++ (text "unit 1 live 753225 1000000000 0 0 0\n"
    ++ (text "residual live -753225 -1000000000 0 -20 -30\n"
    ++ (text "requirement 1 lower 0 0 0 50 0 0\n"
    ++ (text "residual default -24 -1000000000 0 0 -50\n"
    ++ (text "requirement 2 lower 0 0 0 50 0 0\n"
    ++ (text "residual default -34 -1000000000 0 0 -50\n"
    ++ (text "requirement 3 raise 525 0 20 30 0 0\n"
    ++ (text "unit 2 live 752100 1000000000 0 0 0\n"
    ++ (text "residual live -752100 -1000000000 0 -20 -30\n"
    ++ (text "requirement 4 raise 0 0 0 50 0 0\n"
    ++ text "residual default -51 -1000000000 0 0 -50\n")))))))))))
unfolding listing joined text digits words
edges_of_reliability_listing =
    settled edges_of_reliability read ∙ rw (lower_seven_points, lower_six_points, lower_none_beyond, raise_seven_points, raise_six_points)
