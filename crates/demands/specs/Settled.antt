-- What proofs/Settled.antt speaks of: what `settle` hands to the system's write of what the system's read gave.
use Rattle.std.specs.Prelude.{◌≡◌, true, List, [], ℕ}
use Rattle.rules.specs.declared.Refusal.TheVariants.{EndsEarly}
use Rattle.rules.specs.declared.Located.{Located}
use Rattle.rules.specs.Refusals.{located}
use Rattle.rules.specs.Listing.{refused_line}
use Rattle.interval.specs.declared.Tally.{Tally}
use Rattle.interval.specs.Lent.{Lent}
use Rattle.answer.specs.Promises.{Columns}
use Rattle.reader.specs.declared.Came.TheVariants.{Taken, Refused}
use Rattle.reader.specs.Arrives.{Reads}
use Rattle.lister.specs.declared.Cursor.{Cursor}
use Rattle.lister.specs.declared.Listed.TheVariants.{Nothing}
use Rattle.lister.specs.Promises.{ListPromise}
use Rattle.lister.specs.BookListed.{Reached}

-- ---- bs arrived, in pieces of any size, and what is written, joined: of a book that was taken the pieces of its listing, in texts of any length, until
-- nothing is left; else the one line of its refusal, or of an input without a byte
pub data Settles (bs place₀ : List ℕ) (l₀ : Lent) (c₀ : Columns) : List ℕ → Type 0 where
  lists :
      {n p : ℕ} {t : Tally} {place : List ℕ} {l : Lent} {last : Cursor} {c c' : Columns} {said old new : List ℕ} →
      Reads true bs place₀ l₀ n p (Taken t) place l → Reached t place l c₀ last c said → ListPromise last t place l c old Nothing c' new →
      Settles bs place₀ l₀ c₀ said
  refuses :
      {n p : ℕ} {why : Located} {place : List ℕ} {l : Lent} → Reads true bs place₀ l₀ n p (Refused why) place l → Settles bs place₀ l₀ c₀ (refused_line why)
  finds_nothing : bs ≡ [] → Settles bs place₀ l₀ c₀ (refused_line (located 0 EndsEarly))
