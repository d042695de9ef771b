-- What is asked of a book that is written (02, R-4): 'What it writes is read back as exactly what was given, and any book that the reader accepts is written
-- again
-- byte for byte.'
use Rattle.std.specs.Prelude.{◌≡◌, List, ℕ, take, drop}
use Rattle.rules.specs.Refusals.{taken}
use Rattle.rules.specs.Contents.{contents}
use Rattle.rules.specs.WholeBook.{book}
use Rattle.rules.specs.Given.{Given}
use Rattle.rules.specs.Written.{book_size}
use Rattle.rules.specs.Said.{said}
use Rattle.interval.specs.Lent.{Lent}
use Rattle.chain.specs.Taken.{counts_in}
use Rattle.chain.specs.BookWay.{records_in, Hands, Takes}
use Rattle.chain.specs.Long.{Long}

-- a buffer whose first n bytes are a book of these values: as long as the counts ask, taken by the reader as what the values say, and by the calls to its end,
-- however it is handed on; the bytes behind it are as they were
pub record BookOf (g : Given) (n : ℕ) (old new : List ℕ) : Type 0 where
  pub size : n ≡ book_size g.units g.requirements
  pub read : book (take n new) ≡ taken (said g)
  pub behind : drop n new ≡ drop n old
  pub called :
      {head : List ℕ} {part : ℕ → List ℕ} (l₀ : Lent) → Hands (take n new) head part →
      (contents (take n new) ≡ taken (counts_in (take n new)) → Long l₀ (counts_in (take n new)).units) → Takes head part l₀ (records_in head)
