-- The units of the book `groups` without their groups, from the bytes to the listing (02, R-5): nine members, and another RCR.
use Rattle.std.specs.Prelude.{◌≡◌, refl, List, ◌++◌, ℕ, get_or}
use Rattle.std.proofs.Common.{◌∙◌}
use Rattle.rules.specs.Refusals.{taken}
use Rattle.rules.specs.WholeBook.{book}
use Rattle.rules.specs.Answer.{answer}
use Rattle.rules.specs.Text.{text, digits, words}
use Rattle.rules.specs.Listing.{answer_lines, joined, listing, settle}
use Rattle.books.specs.Writing.{book_bytes, settled}
use Rattle.books.specs.PaperBook.{requirement}
use Rattle.books.specs.Computing.{computing}
use Rattle.books.specs.GroupBooks.{groups, ungrouped}

-- the lines of a requirement, by its place in the book
abbrev lines : ℕ → List ℕ
lines i = answer_lines (answer (ungrouped groups) (get_or (ungrouped groups).requirements i requirement))

pub read : book (book_bytes (ungrouped groups)) ≡ taken (ungrouped groups)
unfolding computing
read = refl

-- 10, 160 and 30 with the residual 15
abbrev raise_lines : List ℕ
raise_lines =
    text "requirement 1 raise 16125 1613 250 750 0 0\n"
    ++ (text "unit 1 live 600000000 54054054 87 0 -129\n"
    ++ (text "unit 2 live 7800000000 702702703 1133 0 -285\n"
    ++ (text "unit 3 live -7800000000 -702702703 -1133 -176 0\n"
    ++ (text "unit 4 live 1800000000 162162162 262 0 -207\n"
    ++ (text "unit 5 live -3000000000 -270270270 -436 -67 0\n"
    ++ (text "unit 6 live -300000000 -27027027 -44 -7 -26\n"
    ++ text "residual live 900000000 81081081 131 0 -103\n"))))))

pub raise : lines 0 ≡ raise_lines
unfolding computing
raise = refl

-- 13, 160 and 50 with the residual 5
abbrev lower_lines : List ℕ
lower_lines =
    text "requirement 2 lower 17100 1710 250 750 0 0\n"
    ++ (text "unit 1 live 682500000 57017544 98 0 -194\n"
    ++ (text "unit 2 live -8400000000 -701754386 -1200 -175 -83\n"
    ++ (text "unit 3 live 8400000000 701754386 1200 0 0\n"
    ++ (text "unit 4 live -1575000000 -131578947 -225 -33 -278\n"
    ++ (text "unit 5 live 2625000000 219298246 375 0 0\n"
    ++ (text "unit 6 live 262500000 21929824 37 0 -28\n"
    ++ text "residual live -1995000000 -166666667 -285 -42 -167\n"))))))

pub lower : lines 1 ≡ lower_lines
unfolding computing
lower = refl

-- 10, 160, 30 and 3 with the residual 22
abbrev two_regions_lines : List ℕ
two_regions_lines =
    text "requirement 3 raise 16875 1125 544 233 0 0\n"
    ++ (text "unit 1 live 600000000 50955414 57 0 -27\n"
    ++ (text "unit 2 live 7800000000 662420382 745 0 -58\n"
    ++ (text "unit 3 live -7800000000 -662420382 -745 -360 0\n"
    ++ (text "unit 4 live 1800000000 152866242 172 0 -42\n"
    ++ (text "unit 5 live -3000000000 -254777070 -287 -139 0\n"
    ++ (text "unit 6 live -300000000 -25477707 -29 -14 -5\n"
    ++ (text "unit 7 live -540000000 -45859873 -51 -25 -32\n"
    ++ (text "unit 8 live 202500000 17197452 20 0 0\n"
    ++ (text "unit 9 live -135000000 -11464968 -13 -6 0\n"
    ++ text "residual live 1372500000 116560510 131 0 -69\n")))))))))

pub two_regions : lines 2 ≡ two_regions_lines
unfolding computing
two_regions = refl

pub ungrouped_listing : settle (book_bytes (ungrouped groups)) ≡ text "interval 115\n" ++ (raise_lines ++ (lower_lines ++ two_regions_lines))
unfolding listing joined text digits words
ungrouped_listing = settled (ungrouped groups) read ∙ rw (raise, lower, two_regions)
