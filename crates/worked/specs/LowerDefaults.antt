-- Lower where defaults stand in, from the bytes to the listing: what each requirement gives is a theorem of its own, and the listing follows from them. The
-- figures are the second program's (tests/worked/).
use Rattle.std.specs.Prelude.{◌≡◌, refl, List, ◌++◌, ℕ, get_or}
use Rattle.std.proofs.Common.{◌∙◌}
use Rattle.rules.specs.Refusals.{taken}
use Rattle.rules.specs.WholeBook.{book}
use Rattle.rules.specs.Answer.{answer}
use Rattle.rules.specs.Text.{text, digits, words}
use Rattle.rules.specs.Listing.{answer_lines, joined, listing, settle}
use Rattle.books.specs.Writing.{book_bytes, settled}
use Rattle.books.specs.PaperBook.{requirement}
use Rattle.books.specs.Computing.{computing}
use Rattle.books.specs.WorkedBooks.{lower_defaults}

-- the lines of a requirement, by its place in the book
abbrev lines : ℕ → List ℕ
lines i = answer_lines (answer lower_defaults (get_or lower_defaults.requirements i requirement))

pub read : book (book_bytes lower_defaults) ≡ taken lower_defaults
unfolding computing
read = refl

-- percent 50; region 0 has as many bad points as the limit
pub one_bad_of_two : lines 0
    ≡ text "requirement 1 lower 7500 250 2500 2500 0 0\n"
    ++ (text "unit 1 live 11250000000 1000000000 250 0 -270\n"
    ++ (text "unit 2 default -4000000000 -262295082 -66 -959 -439\n"
    ++ text "residual live -11250000000 -737704918 -184 -1541 -1791\n"))
unfolding computing
one_bad_of_two = refl

-- RCR is 0 and the used pool stays; region 3 keeps the FM before the interval to t = 74, and has no good unit
pub two_bad_of_three : lines 1
    ≡ text "requirement 2 lower 0 0 2500 2500 0 0\n"
    ++ (text "unit 1 live 11250000000 1000000000 0 0 -68\n"
    ++ (text "unit 2 default -4000000000 -203562341 0 -652 -110\n"
    ++ (text "unit 3 default -1000000000 -50890585 0 -279 -153\n"
    ++ text "residual default -14650000000 -745547074 0 -1569 -2169\n")))
unfolding computing
two_bad_of_three = refl

pub separated : lines 2
    ≡ text "requirement 3 lower 0 0 0 5000 0 0\n"
    ++ (text "unit 4 default -44 -177419355 0 0 -913\n"
    ++ text "residual default -204 -822580645 0 0 -4087\n")
unfolding computing
separated = refl

-- 75 bad points, the limit is 74
pub bad_points_over : lines 3
    ≡ text "requirement 4 lower 0 0 0 5000 0 0\n"
    ++ text "residual default -304 -1000000000 0 0 -5000\n"
unfolding computing
bad_points_over = refl

-- FM -10,000 throughout
pub none_beyond : lines 4
    ≡ text "requirement 5 lower 0 0 0 5000 0 0\n"
    ++ text "residual default -504 -1000000000 0 0 -5000\n"
unfolding computing
none_beyond = refl

pub lower_defaults_listing : settle (book_bytes lower_defaults)
    ≡ text "interval 109\n"
    ++ (text "requirement 1 lower 7500 250 2500 2500 0 0\n"
    ++ (text "unit 1 live 11250000000 1000000000 250 0 -270\n"
    ++ (text "unit 2 default -4000000000 -262295082 -66 -959 -439\n"
    ++ (text "residual live -11250000000 -737704918 -184 -1541 -1791\n"
    ++ (text "requirement 2 lower 0 0 2500 2500 0 0\n"
    ++ (text "unit 1 live 11250000000 1000000000 0 0 -68\n"
    ++ (text "unit 2 default -4000000000 -203562341 0 -652 -110\n"
    ++ (text "unit 3 default -1000000000 -50890585 0 -279 -153\n"
    ++ (text "residual default -14650000000 -745547074 0 -1569 -2169\n"
    ++ (text "requirement 3 lower 0 0 0 5000 0 0\n"
    ++ (text "unit 4 default -44 -177419355 0 0 -913\n"
    ++ (text "residual default -204 -822580645 0 0 -4087\n"
    ++ (text "requirement 4 lower 0 0 0 5000 0 0\n"
    ++ (text "residual default -304 -1000000000 0 0 -5000\n"
    ++ (text "requirement 5 lower 0 0 0 5000 0 0\n"
    ++ text "residual default -504 -1000000000 0 0 -5000\n")))))))))))))))
unfolding listing joined text digits words
lower_defaults_listing = settled lower_defaults read ∙ rw (one_bad_of_two, two_bad_of_three, separated, bad_points_over, none_beyond)
