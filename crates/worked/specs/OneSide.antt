-- The listing of the book in which RCR is above 0 and no pool is formed, from its bytes to its text. The figures are the second program's (tests/worked/).
use Rattle.std.specs.Prelude.{◌≡◌, refl, ◌++◌}
use Rattle.rules.specs.Text.{text}
use Rattle.rules.specs.Listing.{settle}
use Rattle.books.specs.Writing.{book_bytes, settled}
use Rattle.books.specs.Computing.{computing}
use Rattle.books.specs.WorkedBooks.{one_side}

pub one_side_listing : settle (book_bytes one_side)
    ≡ text "interval 108\n"
    ++ (text "requirement 1 raise 7500 0 25 75 0 0\n"
    ++ (text "unit 1 live 0 0 0 0 0\n"
    ++ (text "unit 2 default -5 -200000000 0 -6 -75\n"
    ++ (text "residual default -20 -800000000 0 -19 0\n"
    ++ (text "requirement 2 raise 7500 0 25 75 25 75\n"
    ++ (text "unit 1 live 0 0 0 0 0\n"
    ++ (text "residual live 0 0 0 0 0\n"
    ++ (text "requirement 3 raise 0 0 100 0 100 0\n"
    ++ (text "unit 1 live 0 0 0 0 0\n"
    ++ (text "residual live 0 0 0 0 0\n"
    ++ (text "requirement 4 lower 7500 100 25 75 0 75\n"
    ++ (text "unit 1 live -10200000000 -1000000000 -100 -25 0\n"
    ++ (text "residual live 10200000000 1000000000 100 0 0\n"
    ++ (text "requirement 5 lower 7500 0 25 75 0 0\n"
    ++ (text "unit 3 live 0 0 0 0 0\n"
    ++ (text "unit 4 default -5 -200000000 0 -6 -75\n"
    ++ (text "residual default -20 -800000000 0 -19 0\n"
    ++ (text "requirement 6 lower 0 0 100 0 100 0\n"
    ++ (text "unit 3 live 0 0 0 0 0\n"
    ++ text "residual live 0 0 0 0 0\n")))))))))))))))))))
unfolding computing
one_side_listing = settled one_side refl
