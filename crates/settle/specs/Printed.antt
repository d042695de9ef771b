-- What is printed of a taken book: the pieces of its listing that the calls gave, one after another, to the last. That each was handed to `write` is main's.
use Rattle.std.specs.Prelude.{List, ℕ}
use Rattle.interval.specs.declared.Tally.{Tally}
use Rattle.interval.specs.Lent.{Lent}
use Rattle.answer.specs.Promises.{Columns}
use Rattle.lister.specs.declared.Cursor.{Cursor}
use Rattle.lister.specs.declared.Listed.TheVariants.{Nothing}
use Rattle.lister.specs.Promises.{ListPromise}
use Rattle.lister.specs.BookListed.{Reached}

pub record ListingPrinted (t : Tally) (bytes : List ℕ) (l : Lent) (c₀ c' : Columns) : Type 0 where
  pub said : List ℕ
  pub last : Cursor
  pub columns : Columns
  pub old : List ℕ
  pub new : List ℕ
  pub pieces : Reached t bytes l c₀ last columns said
  pub through : ListPromise last t bytes l columns old Nothing c' new
