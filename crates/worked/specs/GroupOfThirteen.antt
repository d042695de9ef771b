-- A group of thirteen at the end of the roster, from the bytes to the listing (02, R-5).
use Rattle.std.specs.Prelude.{◌≡◌, refl, ◌++◌}
use Rattle.rules.specs.Text.{text}
use Rattle.rules.specs.Listing.{settle}
use Rattle.books.specs.Writing.{book_bytes, settled}
use Rattle.books.specs.Computing.{computing}
use Rattle.books.specs.GroupBooks.{group_of_13}

-- the thirteen are 1, 4, 25 and so on to 169 below their trajectories, of which four as loads: 270 - 549
pub group_of_13_listing : settle (book_bytes group_of_13)
    ≡ text "interval 117\n"
    ++ (text "requirement 1 lower 20925 2790 300 701 0 0\n"
    ++ (text "unit 5 default -50000000 -1590457 -4 -1 -140\n"
    ++ (text "unit 101 live 31387500000 1000000000 2790 0 -234\n"
    ++ text "residual live -31387500000 -998409543 -2786 -299 -327\n")))
unfolding computing
group_of_13_listing = settled group_of_13 refl
