-- The listing of the book with roster 0, from its bytes to its text. The figures are the second program's (tests/worked/).
use Rattle.std.specs.Prelude.{◌≡◌, refl, ◌++◌}
use Rattle.rules.specs.Text.{text}
use Rattle.rules.specs.Listing.{settle}
use Rattle.books.specs.Writing.{book_bytes, settled}
use Rattle.books.specs.Computing.{computing}
use Rattle.books.specs.WorkedBooks.{no_units}

pub no_units_listing : settle (book_bytes no_units)
    ≡ text "interval 0\n"
    ++ (text "requirement 0 lower 0 0 20 30 20 0\n"
    ++ (text "residual live 0 0 0 0 -30\n"
    ++ (text "requirement 1 lower 0 0 0 50 0 0\n"
    ++ text "residual default 0 0 0 0 -50\n")))
unfolding computing
no_units_listing = settled no_units refl
