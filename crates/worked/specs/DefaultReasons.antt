-- The listing of the book with each default reason, from its bytes to its text. The figures are the second program's (tests/worked/).
use Rattle.std.specs.Prelude.{◌≡◌, refl, ◌++◌}
use Rattle.rules.specs.Text.{text}
use Rattle.rules.specs.Listing.{settle}
use Rattle.books.specs.Writing.{book_bytes, settled}
use Rattle.books.specs.Computing.{computing}
use Rattle.books.specs.WorkedBooks.{default_reasons}

pub default_reasons_listing : settle (book_bytes default_reasons)
    ≡ text "interval 102\n"
    ++ (text "requirement 1 raise 750 75 250 750 0 0\n"
    ++ (text "unit 10 live 1125000000 1000000000 75 0 -1\n"
    ++ (text "unit 20 default -75000000 -62500000 -5 -62 -1\n"
    ++ (text "residual live -1125000000 -937500000 -70 -188 -748\n"
    ++ (text "requirement 2 raise 0 0 250 750 0 0\n"
    ++ (text "unit 10 live 1125000000 1000000000 0 0 -1\n"
    ++ (text "unit 20 default -75000000 -62499842 0 -62 -1\n"
    ++ (text "unit 40 default -41 -34 0 0 -3\n"
    ++ (text "residual default -1125003000 -937500124 0 -188 -745\n"
    ++ (text "requirement 3 raise 0 0 0 1000 0 0\n"
    ++ (text "unit 10 live 1125000000 1000000000 0 0 0\n"
    ++ (text "unit 20 default -75000000 -62499475 0 0 0\n"
    ++ (text "unit 30 default -31 -26 0 0 -1\n"
    ++ (text "unit 40 default -41 -34 0 0 -1\n"
    ++ text "residual default -1125010000 -937500465 0 0 -998\n"))))))))))))))
unfolding computing
default_reasons_listing = settled default_reasons refl
