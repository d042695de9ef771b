-- Whatever follows the frequency records of the book that is changed, they are taken, and the units come next: tables of unit fields compute no more than the
-- first unit.
use Rattle.std.specs.Prelude.{refl, List, [], ℕ, drop}
use Rattle.integers.specs.Sums.{sumℕ, every}
use Rattle.rules.specs.Refusals.{LocatedReply, taken, ◌>>=◌}
use Rattle.rules.specs.Bytes.{little, listed}
use Rattle.rules.specs.Book.{Book}
use Rattle.rules.specs.Contents.{contents}
use Rattle.rules.specs.SettingsRecord.{settings}
use Rattle.rules.specs.FrequencyRecord.{region_in, frequency_record}
use Rattle.rules.specs.WholeBook.{frequency_body, unit_body, requirement_body, book}
use Rattle.rules.specs.Laid.{bytes, strung, laid}
use Rattle.rules.specs.Written.{book_laid}
use Rattle.rules.specs.Said.{chained}
use Rattle.books.specs.Writing.{book_bytes}
use Rattle.books.specs.WorkedBooks.{every_field}
use Rattle.refused.specs.Changed.{Next}

abbrev pub units : List ℕ → LocatedReply Book
units bs = do
  us ← unit_body 2 1 0 [] bs
  qs ← requirement_body 2 1 0 (drop 744 bs)
  taken (record { settings = every_field.settings; regions = every_field.regions; roster = us; requirements = qs })

-- opens what is computed before the units
unfoldable pub before_units : Unit {0}
unfolding sumℕ every little listed contents settings region_in frequency_record frequency_body book bytes strung laid book_laid chained book_bytes
before_units = tt

pub frequencies_taken : Next 1_904 2_276 units
unfolding before_units
frequencies_taken = record { is = λ f. refl }

-- the same where both units follow
pub two_units_follow : Next 1_904 2_648 units
unfolding before_units
two_units_follow = record { is = λ f. refl }
