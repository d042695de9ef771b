-- Two groups side by side, units without one at each side of them, and a group at the end of the roster, from the bytes to the listing (02, R-5). What each
-- requirement gives is a theorem of its own, and the listing follows from them.
use Rattle.std.specs.Prelude.{◌≡◌, refl, List, ◌++◌, ℕ, get_or}
use Rattle.std.proofs.Common.{◌∙◌}
use Rattle.rules.specs.Refusals.{taken}
use Rattle.rules.specs.WholeBook.{book}
use Rattle.rules.specs.Answer.{answer}
use Rattle.rules.specs.Text.{text, digits, words}
use Rattle.rules.specs.Listing.{answer_lines, joined, listing, settle}
use Rattle.books.specs.Writing.{book_bytes, settled}
use Rattle.books.specs.PaperBook.{requirement}
use Rattle.books.specs.Computing.{computing}
use Rattle.books.specs.GroupBooks.{groups}

-- the lines of a requirement, by its place in the book
abbrev lines : ℕ → List ℕ
lines i = answer_lines (answer groups (get_or groups.requirements i requirement))

pub read : book (book_bytes groups) ≡ taken groups
unfolding computing
read = refl

-- units 2 and 3 cancel and are one member; group 1 goes by unit 4, a load, and is 30 - 50 off its trajectory. RCR is that of 10, -20 and -5 with the residual
abbrev raise_lines : List ℕ
raise_lines =
    text "requirement 1 raise 1875 188 250 750 0 0\n"
    ++ (text "unit 1 live 600000000 400000000 75 0 -129\n"
    ++ (text "unit 2 live 0 0 0 0 -285\n"
    ++ (text "unit 4 live -1200000000 -800000000 -150 -200 -207\n"
    ++ (text "unit 6 live -300000000 -200000000 -38 -50 -26\n"
    ++ text "residual live 900000000 600000000 113 0 -103\n"))))

pub raise : lines 0 ≡ raise_lines
unfolding computing
raise = refl

-- at the points of FM below 0 unit 1 is at -13
abbrev lower_lines : List ℕ
lower_lines =
    text "requirement 2 lower 2850 285 250 750 0 0\n"
    ++ (text "unit 1 live 682500000 342105263 98 0 -194\n"
    ++ (text "unit 2 live 0 0 0 0 -83\n"
    ++ (text "unit 4 live 1050000000 526315790 150 0 -278\n"
    ++ (text "unit 6 live 262500000 131578947 37 0 -28\n"
    ++ text "residual live -1995000000 -1000000000 -285 -250 -167\n"))))

pub lower : lines 1 ≡ lower_lines
unfolding computing
lower = refl

-- with the group of units 7 to 9 in region 1: -8 + 3 - 2
abbrev two_regions_lines : List ℕ
two_regions_lines =
    text "requirement 3 raise 2400 160 544 233 0 0\n"
    ++ (text "unit 1 live 600000000 304182510 49 0 -27\n"
    ++ (text "unit 2 live 0 0 0 0 -58\n"
    ++ (text "unit 4 live -1200000000 -608365019 -98 -331 -42\n"
    ++ (text "unit 6 live -300000000 -152091255 -24 -83 -5\n"
    ++ (text "unit 7 live -472500000 -239543726 -38 -130 -32\n"
    ++ text "residual live 1372500000 695817490 111 0 -69\n")))))

pub two_regions : lines 2 ≡ two_regions_lines
unfolding computing
two_regions = refl

pub groups_listing : settle (book_bytes groups) ≡ text "interval 115\n" ++ (raise_lines ++ (lower_lines ++ two_regions_lines))
unfolding listing joined text digits words
groups_listing = settled groups read ∙ rw (raise, lower, two_regions)
