-- Listings of worked books, each from its bytes to its text: the bytes are read as the book, and the book gives the text. The figures are the second program's
-- (tests/worked/). Books that wrong definitions are held against have a file of their own, so that each is checked alone.
use Rattle.std.specs.Prelude.{◌≡◌, refl, ◌++◌}
use Rattle.rules.specs.Text.{text}
use Rattle.rules.specs.Listing.{settle}
use Rattle.books.specs.Writing.{book_bytes, settled}
use Rattle.books.specs.Computing.{computing}
use Rattle.books.specs.WorkedBooks.{lower_two_regions, bad_frequency_points, unplaced, ramp, ties}

pub lower_two_regions_listing : settle (book_bytes lower_two_regions)
    ≡ text "interval 101\n"
    ++ (text "requirement 3 lower 10500 350 3125 1875 0 0\n"
    ++ (text "unit 1 live 11250000000 625000000 219 0 -1652\n"
    ++ (text "unit 2 live 6750000000 375000000 131 0 -165\n"
    ++ (text "unit 3 live -1687500000 -93750000 -33 -293 -17\n"
    ++ (text "unit 4 live -3375000000 -187500000 -66 -586 -25\n"
    ++ (text "residual live -12937500000 -718750000 -251 -2246 -16\n"
    ++ (text "requirement 4 lower 7500 100 389 388 0 0\n"
    ++ (text "unit 1 live 11250000000 1000000000 100 0 -380\n"
    ++ (text "unit 4 live -3375000000 -300000000 -30 -117 -6\n"
    ++ (text "residual live -7875000000 -700000000 -70 -272 -2\n"
    ++ (text "requirement 9 raise 0 0 0 1000 0 0\n"
    ++ (text "unit 1 default -100 -109769484 0 0 -880\n"
    ++ (text "unit 2 default -10 -10976948 0 0 -88\n"
    ++ (text "unit 3 default -1 -1097695 0 0 -9\n"
    ++ (text "unit 4 default 0 0 0 0 0\n"
    ++ text "residual default -800 -878155873 0 0 -23\n")))))))))))))))
unfolding computing
lower_two_regions_listing = settled lower_two_regions refl

pub bad_frequency_points_listing : settle (book_bytes bad_frequency_points)
    ≡ text "interval 103\n"
    ++ (text "requirement 1 raise 150 16667 33 67 0 0\n"
    ++ (text "unit 1 live 209250525 500000000 8334 0 -5\n"
    ++ (text "unit 3 live -418501050 -1000000000 -16667 -33 -16\n"
    ++ (text "residual live 209250525 500000000 8333 0 -46\n"
    ++ (text "requirement 2 raise 0 0 0 100 0 0\n"
    ++ (text "unit 2 default -2 -222222222 0 0 -18\n"
    ++ text "residual default -7 -777777778 0 0 -82\n"))))))
unfolding computing
bad_frequency_points_listing = settled bad_frequency_points refl

pub unplaced_listing : settle (book_bytes unplaced)
    ≡ text "interval 105\n"
    ++ (text "requirement 1 raise 0 0 501 500 501 500\n"
    ++ (text "unit 1 live 0 0 0 0 0\n"
    ++ (text "unit 2 live 0 0 0 0 0\n"
    ++ (text "residual live 0 0 0 0 0\n"
    ++ (text "requirement 2 raise 0 0 0 1001 0 1001\n"
    ++ (text "unit 1 live 0 0 0 0 0\n"
    ++ (text "unit 2 live 0 0 0 0 0\n"
    ++ (text "residual live 0 0 0 0 0\n"
    ++ (text "requirement 3 raise 0 0 501 500 501 0\n"
    ++ (text "unit 3 default -5 -1000000000 0 0 -500\n"
    ++ text "residual default 0 0 0 0 0\n"))))))))))
unfolding computing
unplaced_listing = settled unplaced refl

pub ramp_listing : settle (book_bytes ramp)
    ≡ text "interval 106\n"
    ++ (text "requirement 1 raise 7350 74 7 3 0 3\n"
    ++ (text "unit 1 live -703000000 -230303030 -17 -2 0\n"
    ++ (text "unit 2 live 1350500000 442424242 33 0 0\n"
    ++ (text "unit 65535 live 1702000000 557575758 41 0 0\n"
    ++ (text "residual live -2349500000 -769696970 -57 -5 0\n"
    ++ (text "requirement 2 lower 11250 113 7 3 0 3\n"
    ++ (text "unit 1 live 3629000000 712686567 81 0 0\n"
    ++ (text "unit 2 live 1463000000 287313433 32 0 0\n"
    ++ (text "unit 65535 live -351500000 -69029851 -8 0 0\n"
    ++ text "residual live -4740500000 -930970149 -105 -7 0\n")))))))))
unfolding computing
ramp_listing = settled ramp refl

pub ties_listing : settle (book_bytes ties)
    ≡ text "interval 107\n"
    ++ (text "requirement 6 raise 225 10 2 12 0 0\n"
    ++ (text "unit 1 live -112500000 -333333334 -4 -1 -3\n"
    ++ (text "unit 2 live -112500000 -333333333 -3 -1 -3\n"
    ++ (text "unit 3 live 0 0 0 0 0\n"
    ++ (text "unit 4 live -112500000 -333333333 -3 0 -2\n"
    ++ (text "unit 5 live 337500000 1000000000 10 0 -2\n"
    ++ text "residual live 0 0 0 0 -2\n"))))))
unfolding computing
ties_listing = settled ties refl
