-- What proofs/BookListed.antt speaks of: the pieces of a taken book's listing, call after call.
use Rattle.std.specs.Prelude.{◌≡◌, true, false, List, [], ◌++◌, ℕ, suc, ◌*◌, ◌≤◌, ◌<◌, length, get_or, take, drop}
use Rattle.rules.specs.declared.Refusal.{Refusal}
use Rattle.rules.specs.declared.Refusal.TheVariants.{TooShort}
use Rattle.rules.specs.Refusals.{taken}
use Rattle.rules.specs.Contents.{requirement_size}
use Rattle.rules.specs.Book.{Requirement, Book}
use Rattle.rules.specs.RequirementRecord.{requirement_record}
use Rattle.rules.specs.Listing.{listing}
use Rattle.interval.specs.declared.Tally.{Tally}
use Rattle.interval.specs.Tally.{in_range, book_end}
use Rattle.interval.specs.Lent.{Lent}
use Rattle.answer.specs.Promises.{Columns}
use Rattle.answer.specs.BookAnswered.{RulesAnswers}
use Rattle.lister.specs.declared.Cursor.{Cursor}
use Rattle.lister.specs.declared.Cursor.TheVariants.{Interval}
use Rattle.lister.specs.declared.Listed.{Listed}
use Rattle.lister.specs.declared.Listed.TheVariants.{Written, Nothing, Refused}
use Rattle.lister.specs.Promises.{longest_line, ListPromise}

-- a book that was taken to its end: the rules' answers are given, and the requirements' records stand in the bytes, one after the other
pub record Taken (b : Book) (t : Tally) (bytes : List ℕ) (l : Lent) : Type 0 where
  pub tally : in_range t ≡ true
  pub ended : t.records ≡ book_end t
  pub interval : t.interval ≡ b.settings.interval
  pub requirements : t.requirements ≡ length b.requirements
  pub answers : RulesAnswers b t l
  pub room : requirement_size * t.requirements ≤ length bytes
  pub asks : (i : ℕ) (z : Requirement) → i < length b.requirements →
      requirement_record 0 false (drop (requirement_size * i) bytes) ≡ taken (get_or b.requirements i z)

-- ---- calls one after another, from the first cursor on: each is handed the cursor and the columns as the call before left them, and a text of any length; a
-- call that is refused is made again. What they have written, joined
module _ (t : Tally) (bytes : List ℕ) (l : Lent) (c₀ : Columns) where
  pub data Reached : Cursor → Columns → List ℕ → Type 0 where
    first : Reached Interval c₀ []
    piece :
        {at next : Cursor} {c c' : Columns} {said old new : List ℕ} {n : ℕ} → Reached at c said → ListPromise at t bytes l c old (Written n next) c' new →
        Reached next c' (said ++ take n new)
    again :
        {at : Cursor} {c c' : Columns} {said old new : List ℕ} {why : Refusal} → Reached at c said → ListPromise at t bytes l c old (Refused why) c' new →
        Reached at c' said

  -- how many of them wrote something
  unfoldable pub pieces : {at : Cursor} {c : Columns} {said : List ℕ} → Reached at c said → ℕ
  pieces first = 0
  pieces (piece w p) = suc (pieces w)
  pieces (again w p) = pieces w

-- what a call gives of the rest: some of it, in a text that had room for it; or nothing, where nothing is left; or 12, in a text shorter than the longest line,
-- and nothing is written
pub data GivenOf (rest : List ℕ) (c : Columns) (old : List ℕ) (r : Listed) (c' : Columns) (new : List ℕ) : Type 0 where
  some :
      (n : ℕ) (next : Cursor) → r ≡ Written n next → 0 < n → n ≤ length old → take n new ≡ take n rest → n ≤ length rest → drop n new ≡ drop n old →
      GivenOf rest c old r c' new
  none : r ≡ Nothing → rest ≡ [] → c' ≡ c → new ≡ old → GivenOf rest c old r c' new
  no_room : r ≡ Refused TooShort → length old < longest_line → c' ≡ c → new ≡ old → GivenOf rest c old r c' new

-- ---- wherever such calls have come, what they have written is the front of the rules' listing, and the next call gives of the rest
pub record OnItsWay (b : Book) (t : Tally) (bytes : List ℕ) (l : Lent) (at : Cursor) (c : Columns) (said : List ℕ) : Type 0 where
  pub rest : List ℕ
  pub whole : listing b ≡ said ++ rest
  pub gives : {old new : List ℕ} {r : Listed} {c' : Columns} → ListPromise at t bytes l c old r c' new → GivenOf rest c old r c' new
