-- One bad unit makes its group bad, and the percent rule speaks of members, from the bytes to the listing (02, R-5). What each requirement gives is a
-- theorem of its own, and the listing follows from them.
use Rattle.std.specs.Prelude.{◌≡◌, refl, List, ◌++◌, ℕ, get_or}
use Rattle.std.proofs.Common.{◌∙◌}
use Rattle.rules.specs.Refusals.{taken}
use Rattle.rules.specs.WholeBook.{book}
use Rattle.rules.specs.Answer.{answer}
use Rattle.rules.specs.Text.{text, digits, words}
use Rattle.rules.specs.Listing.{answer_lines, joined, listing, settle}
use Rattle.books.specs.Writing.{book_bytes, settled}
use Rattle.books.specs.PaperBook.{requirement}
use Rattle.books.specs.Computing.{computing}
use Rattle.books.specs.GroupBooks.{bad_groups}

-- the lines of a requirement, by its place in the book
abbrev lines : ℕ → List ℕ
lines i = answer_lines (answer bad_groups (get_or bad_groups.requirements i requirement))

pub read : book (book_bytes bad_groups) ≡ taken bad_groups
unfolding computing
read = refl

-- percent 50, one member of two is bad: RCR stays. Of the records two of three are bad
abbrev one_bad_of_two_lines : List ℕ
one_bad_of_two_lines =
    text "requirement 1 raise 3000 300 250 750 0 0\n"
    ++ (text "unit 11 default -375000000 -76923077 -23 -36 -150\n"
    ++ (text "unit 13 live 4500000000 1000000000 300 0 -400\n"
    ++ text "residual live -4500000000 -923076923 -277 -214 -200\n"))

pub one_bad_of_two : lines 0 ≡ one_bad_of_two_lines
unfolding computing
one_bad_of_two = refl

-- one more bad member: RCR is 0. Of the records three of seven are bad
abbrev two_bad_of_three_lines : List ℕ
two_bad_of_three_lines =
    text "requirement 2 raise 0 0 250 750 0 0\n"
    ++ (text "unit 11 default -375000000 -65789474 0 -28 -68\n"
    ++ (text "unit 13 live 4500000000 1000000000 0 0 -182\n"
    ++ (text "unit 21 default -225000000 -39473684 0 -17 -295\n"
    ++ text "residual default -5100000000 -894736842 0 -205 -205\n")))

pub two_bad_of_three : lines 1 ≡ two_bad_of_three_lines
unfolding computing
two_bad_of_three = refl

-- a bad unit in the middle of its group: no good member and a default residual, though three units of the group are good
abbrev none_good_lines : List ℕ
none_good_lines =
    text "requirement 3 raise 0 0 250 750 0 0\n"
    ++ (text "unit 21 default -225000000 -272727273 0 -83 -542\n"
    ++ text "residual default -600000000 -727272727 0 -167 -208\n")

pub none_good : lines 2 ≡ none_good_lines
unfolding computing
none_good = refl

-- the first unit of group 65,535 is bad and the last of group 1; units 35 and 36 are 14 - 2 off their trajectories
abbrev first_and_last_bad_lines : List ℕ
first_and_last_bad_lines =
    text "requirement 4 raise 0 0 750 250 0 0\n"
    ++ (text "unit 31 default -150000000 -151515152 0 -47 -117\n"
    ++ (text "unit 33 default -120000000 -121212121 0 -28 -94\n"
    ++ (text "unit 35 live 720000000 1000000000 0 0 -6\n"
    ++ text "residual live -720000000 -727272727 0 -675 -33\n")))

pub first_and_last_bad : lines 3 ≡ first_and_last_bad_lines
unfolding computing
first_and_last_bad = refl

-- the primary's defaults for lower
abbrev lower_defaults_lines : List ℕ
lower_defaults_lines =
    text "requirement 5 lower 0 0 750 250 0 0\n"
    ++ (text "unit 31 default -180000000 -171428571 0 -58 -61\n"
    ++ (text "unit 33 default -240000000 -228571429 0 -86 -128\n"
    ++ (text "unit 35 live -630000000 -600000000 0 -606 -14\n"
    ++ text "residual live 630000000 1000000000 0 0 -47\n")))

pub lower_defaults : lines 4 ≡ lower_defaults_lines
unfolding computing
lower_defaults = refl

pub bad_groups_listing : settle (book_bytes bad_groups)
    ≡ text "interval 116\n" ++ (one_bad_of_two_lines ++ (two_bad_of_three_lines ++ (none_good_lines ++ (first_and_last_bad_lines ++ lower_defaults_lines))))
unfolding listing joined text digits words
bad_groups_listing = settled bad_groups read ∙ rw (one_bad_of_two, two_bad_of_three, none_good, first_and_last_bad, lower_defaults)
