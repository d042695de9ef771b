-- The book in which every share has equal remainders of unequal weights (02, R-9), from the bytes to the listing: what each requirement gives is a theorem of
-- its own, and the listing follows from them. The figures are the second program's (tests/worked/).
use Rattle.std.specs.Prelude.{◌≡◌, refl, List, ◌++◌, ℕ, get_or}
use Rattle.std.proofs.Common.{◌∙◌}
use Rattle.rules.specs.Refusals.{taken}
use Rattle.rules.specs.WholeBook.{book}
use Rattle.rules.specs.Answer.{answer}
use Rattle.rules.specs.Text.{text, digits, words}
use Rattle.rules.specs.Listing.{answer_lines, joined, listing, settle}
use Rattle.books.specs.Writing.{book_bytes, settled}
use Rattle.books.specs.PaperBook.{requirement}
use Rattle.books.specs.Computing.{computing}
use Rattle.books.specs.WorkedBooks.{larger_first}

-- the lines of a requirement, by its place in the book
abbrev lines : ℕ → List ℕ
lines i = answer_lines (answer larger_first (get_or larger_first.requirements i requirement))

pub read : book (book_bytes larger_first) ≡ taken larger_first
unfolding computing
read = refl

pub raise_shares : lines 0
    ≡ text "requirement 1 raise 22500 200 200 300 0 0\n"
    ++ (text "unit 1 live 240000000 13333333 3 0 -12\n"
    ++ (text "unit 2 live 60000000 3333333 0 0 -38\n"
    ++ (text "unit 3 live 17700000000 983333334 197 0 -12\n"
    ++ (text "unit 4 live -120000000 -3333333 0 -1 -38\n"
    ++ (text "unit 5 live -300000000 -8333333 -2 -2 -63\n"
    ++ (text "unit 6 default -11940000000 -331666667 -66 -23 -37\n"
    ++ (text "unit 7 default -6060000000 -168333333 -34 -27 -63\n"
    ++ text "residual live -17580000000 -488333334 -98 -147 -37\n")))))))
unfolding computing
raise_shares = refl

pub lower_shares : lines 1
    ≡ text "requirement 2 lower 22500 400 120 80 0 0\n"
    ++ (text "unit 1 live -210000000 -6666667 -3 -1 -5\n"
    ++ (text "unit 2 live -52500000 -1666666 0 0 -13\n"
    ++ (text "unit 3 live -15487500000 -491666667 -197 -99 0\n"
    ++ (text "unit 4 live 105000000 6666666 2 0 -22\n"
    ++ (text "unit 5 live 262500000 16666667 7 0 -13\n"
    ++ (text "unit 6 default -5407500000 -171666667 -69 -13 -5\n"
    ++ (text "unit 7 default -10342500000 -328333333 -131 -7 0\n"
    ++ text "residual live 15382500000 976666667 391 0 -22\n")))))))
unfolding computing
lower_shares = refl

pub larger_first_listing : settle (book_bytes larger_first)
    ≡ text "interval 111\n"
    ++ (text "requirement 1 raise 22500 200 200 300 0 0\n"
    ++ (text "unit 1 live 240000000 13333333 3 0 -12\n"
    ++ (text "unit 2 live 60000000 3333333 0 0 -38\n"
    ++ (text "unit 3 live 17700000000 983333334 197 0 -12\n"
    ++ (text "unit 4 live -120000000 -3333333 0 -1 -38\n"
    ++ (text "unit 5 live -300000000 -8333333 -2 -2 -63\n"
    ++ (text "unit 6 default -11940000000 -331666667 -66 -23 -37\n"
    ++ (text "unit 7 default -6060000000 -168333333 -34 -27 -63\n"
    ++ (text "residual live -17580000000 -488333334 -98 -147 -37\n"
    ++ (text "requirement 2 lower 22500 400 120 80 0 0\n"
    ++ (text "unit 1 live -210000000 -6666667 -3 -1 -5\n"
    ++ (text "unit 2 live -52500000 -1666666 0 0 -13\n"
    ++ (text "unit 3 live -15487500000 -491666667 -197 -99 0\n"
    ++ (text "unit 4 live 105000000 6666666 2 0 -22\n"
    ++ (text "unit 5 live 262500000 16666667 7 0 -13\n"
    ++ (text "unit 6 default -5407500000 -171666667 -69 -13 -5\n"
    ++ (text "unit 7 default -10342500000 -328333333 -131 -7 0\n"
    ++ text "residual live 15382500000 976666667 391 0 -22\n")))))))))))))))))
unfolding listing joined text digits words
larger_first_listing = settled larger_first read ∙ rw (raise_shares, lower_shares)
