-- The listing of the book in which generation weights turn and cancel the sign, from its bytes to its text. The figures are the second
-- program's (tests/worked/).
use Rattle.std.specs.Prelude.{◌≡◌, refl, ◌++◌}
use Rattle.rules.specs.Text.{text}
use Rattle.rules.specs.Listing.{settle}
use Rattle.books.specs.Writing.{book_bytes, settled}
use Rattle.books.specs.Computing.{computing}
use Rattle.books.specs.WorkedBooks.{sign_turned}

pub sign_turned_listing : settle (book_bytes sign_turned)
    ≡ text "interval 104\n"
    ++ (text "requirement 1 raise 7875 158 999 0 0 0\n"
    ++ (text "unit 1 live 27450000000 1000000000 158 0 0\n"
    ++ (text "unit 2 live -1200000000 -43715847 -7 -44 0\n"
    ++ (text "unit 3 live -60000000 -2185792 0 -2 0\n"
    ++ (text "residual live -26190000000 -954098361 -151 -953 0\n"
    ++ (text "requirement 2 raise 45000 900 999 0 0 0\n"
    ++ (text "unit 1 live 27450000000 1000000000 900 0 0\n"
    ++ (text "residual live -27450000000 -1000000000 -900 -999 0\n"
    ++ (text "requirement 3 lower 55500 1110 0 999 0 999\n"
    ++ (text "unit 1 live -15300000000 -1000000000 -1110 0 0\n"
    ++ (text "unit 2 live 14400000000 941176471 1045 0 0\n"
    ++ (text "unit 3 live 720000000 47058823 52 0 0\n"
    ++ (text "residual live 180000000 11764706 13 0 0\n"
    ++ (text "requirement 4 raise 0 0 0 0 0 0\n"
    ++ (text "unit 4 live 1125000000 1000000000 0 0 0\n"
    ++ text "residual live -1125000000 -1000000000 0 0 0\n")))))))))))))))
unfolding computing
sign_turned_listing = settled sign_turned refl
