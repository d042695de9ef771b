-- Whatever follows the units of the book that is changed, they are taken, and the requirements come next: tables of requirement fields compute those alone.
use Rattle.std.specs.Prelude.{refl, List, ℕ}
use Rattle.rules.specs.Refusals.{LocatedReply, taken, ◌>>=◌}
use Rattle.rules.specs.Book.{Book}
use Rattle.rules.specs.UnitRecord.{unit_in, unit_record}
use Rattle.rules.specs.Groups.{group_fine}
use Rattle.rules.specs.WholeBook.{unit_body, requirement_body}
use Rattle.books.specs.WorkedBooks.{every_field}
use Rattle.refused.specs.Changed.{Next}
use Rattle.refused.specs.FrequenciesTaken.{before_units}

abbrev pub requirements : List ℕ → LocatedReply Book
requirements bs = do
  qs ← requirement_body 2 1 0 bs
  taken (record { settings = every_field.settings; regions = every_field.regions; roster = every_field.roster; requirements = qs })

pub units_taken : Next 2_648 2_696 requirements
unfolding before_units unit_in unit_record group_fine unit_body
units_taken = record { is = λ f. refl }
