-- The book in which each field holds a value of its own is read as what it says, each field from its bytes and no other's, and gives its listing. The figures
-- are the second program's (tests/worked/).
use Rattle.std.specs.Prelude.{◌≡◌, refl, List, [], ◌∷◌, ◌++◌, ℕ, get_or}
use Rattle.std.proofs.Common.{◌∙◌}
use Rattle.rules.specs.Refusals.{taken}
use Rattle.rules.specs.SettingsRecord.{settings}
use Rattle.rules.specs.WholeBook.{book}
use Rattle.rules.specs.Laid.{laid}
use Rattle.rules.specs.Written.{settings_filled}
use Rattle.rules.specs.Said.{handed}
use Rattle.rules.specs.Answer.{answer}
use Rattle.rules.specs.Text.{text, digits, words}
use Rattle.rules.specs.Listing.{answer_lines, joined, listing, settle}
use Rattle.books.specs.Writing.{book_bytes, settled}
use Rattle.books.specs.PaperBook.{requirement}
use Rattle.books.specs.Computing.{computing}
use Rattle.books.specs.WorkedBooks.{every_field}

-- the lines of a requirement, by its place in the book
abbrev lines : ℕ → List ℕ
lines i = answer_lines (answer every_field (get_or every_field.requirements i requirement))

pub read : book (book_bytes every_field) ≡ taken every_field
unfolding computing
read = refl

-- the settings end with their eight bytes, whatever comes behind them
pub settings_alone : settings (laid (settings_filled (handed every_field)) ++ (255 ∷ [])) ≡ taken every_field.settings
unfolding computing
settings_alone = refl

pub raise_in_two_regions : lines 0
    ≡ text "requirement 513 raise 131862 96774 3459921262 868798103 0 0\n"
    ++ (text "unit 772 live -222497161410 -1000000000 -96774 -3459921262 -372327717\n"
    ++ text "residual live 222497161410 1000000000 96774 0 -496470386\n")
unfolding computing
raise_in_two_regions = refl

pub lower_in_two_regions : lines 1
    ≡ text "requirement 1027 lower 0 0 987654321012 0 0 0\n"
    ++ (text "unit 258 default -2020304050611 -333322111 0 -329207023153 0\n"
    ++ text "residual default -4040812162028 -666677889 0 -658447297859 0\n")
unfolding computing
lower_in_two_regions = refl

pub every_field_listing : settle (book_bytes every_field)
    ≡ text "interval 67305985\n"
    ++ (text "requirement 513 raise 131862 96774 3459921262 868798103 0 0\n"
    ++ (text "unit 772 live -222497161410 -1000000000 -96774 -3459921262 -372327717\n"
    ++ (text "residual live 222497161410 1000000000 96774 0 -496470386\n"
    ++ (text "requirement 1027 lower 0 0 987654321012 0 0 0\n"
    ++ (text "unit 258 default -2020304050611 -333322111 0 -329207023153 0\n"
    ++ text "residual default -4040812162028 -666677889 0 -658447297859 0\n")))))
unfolding listing joined text digits words
every_field_listing = settled every_field read ∙ rw (raise_in_two_regions, lower_in_two_regions)
