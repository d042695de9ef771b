-- A book's bytes that arrive, in pieces of any size, with an end at any place. What comes is the world's; what is asked for, and what follows, is what `wanted`
-- and `came` promise.
use Rattle.std.specs.Prelude.{◌≡◌, Bool, true, false, List, ℕ, suc, ◌+◌, ◌*◌, ◌-◌, ◌≤◌, ◌<◌, length, get_or, take, drop}
use Rattle.rules.specs.Refusals.{taken, refused}
use Rattle.rules.specs.Book.{Requirement, Book}
use Rattle.rules.specs.Contents.{requirement_size}
use Rattle.rules.specs.RequirementRecord.{requirement_record}
use Rattle.rules.specs.WholeBook.{book}
use Rattle.interval.specs.declared.Tally.{Tally}
use Rattle.interval.specs.Lent.{Lent}
use Rattle.chain.specs.Taken.{counts_in}
use Rattle.chain.specs.Chain.{Chain}
use Rattle.chain.specs.BookRecords.{record_start}
use Rattle.chain.specs.BookWay.{records_in, Hands}
use Rattle.reader.specs.declared.Reading.{Reading}
use Rattle.reader.specs.declared.Reading.TheVariants.{Contents}
use Rattle.reader.specs.declared.Wanted.{Wanted}
use Rattle.reader.specs.declared.Came.{Came}
use Rattle.reader.specs.declared.Came.TheVariants.{Wants, Taken, Refused}
use Rattle.reader.specs.Reading.{CamePromise, wanted_part}

-- ---- the input is bs, and p bytes of it have come: so many more come, where w says; the place was `old` and is `new`
pub record Arrives (bs : List ℕ) (p : ℕ) (w : Wanted) (count : ℕ) (old new : List ℕ) : Type 0 where
  pub inside : count ≤ w.to - w.from
  pub there : p + count ≤ length bs
  -- where some are wanted, none come only at the end
  pub ended : count ≡ 0 → w.from < w.to → p ≡ length bs
  pub bytes : take count (drop w.from new) ≡ take count (drop p bs)
  -- what stands before them stays; of what stands behind them nothing is said
  pub before : take w.from new ≡ take w.from old
  pub size : length new ≡ length old

-- ---- the walk: n arrivals, after which p bytes of the input have come, each followed by `came`, which said r last; the place and the lists are as it left
-- them
pub data Reads (alone : Bool) (bs place₀ : List ℕ) (l₀ : Lent) : ℕ → ℕ → Came → List ℕ → Lent → Type 0 where
  starts : Reads alone bs place₀ l₀ 0 0 (Wants (Contents 0)) place₀ l₀
  arrives :
      {n p count : ℕ} {reading : Reading} {old new : List ℕ} {l l' : Lent} {r : Came} → Reads alone bs place₀ l₀ n p (Wants reading) old l →
      Arrives bs p (wanted_part reading alone (length old)) count old new → CamePromise reading alone count new l r l' →
      Reads alone bs place₀ l₀ (suc n) (p + count) r new l'

-- a walk that goes on: each arrival has brought something, and more is wanted
pub record GoesOn (alone : Bool) (bs : List ℕ) (n p : ℕ) (reading : Reading) (place : List ℕ) : Type 0 where
  pub brought : n ≤ p
  pub there : p ≤ length bs
  pub wants : (wanted_part reading alone (length place)).from < (wanted_part reading alone (length place)).to

-- a byte behind the book is seen; or there is none
abbrev pub book_size : List ℕ → ℕ
book_size bs = record_start (counts_in bs).units (records_in bs)

abbrev pub Seen : Bool → List ℕ → Type 0
Seen true bs = Unit {0}
Seen false bs = length bs ≤ book_size bs

-- ---- the book was taken: the calls have taken every record of it, and its requirements stand one after the other in the place
pub record TakenBook (bs : List ℕ) (l₀ : Lent) (t : Tally) (place : List ℕ) (l : Lent) : Type 0 where
  pub head : List ℕ
  pub part : ℕ → List ℕ
  pub hands : Hands bs head part
  pub chain : Chain head part l₀ (records_in head) t l
  pub the_book : Book
  pub is_taken : book bs ≡ taken the_book
  pub asks :
      (i : ℕ) (z : Requirement) → i < length the_book.requirements →
      requirement_record 0 false (drop (requirement_size * i) place) ≡ taken (get_or the_book.requirements i z)
  pub room : requirement_size * t.requirements ≤ length place

-- where a walk has ended: in the taken book, or in the refusal that the format gives
abbrev pub ReadOutcome : List ℕ → Lent → Came → List ℕ → Lent → Type 0
ReadOutcome bs l₀ (Wants reading) place l = Unit {0}
ReadOutcome bs l₀ (Taken t) place l = TakenBook bs l₀ t place l
ReadOutcome bs l₀ (Refused why) place l = book bs ≡ refused why

-- ---- what came is an input of its own, of bytes, and the reading of it a walk to its end; of what would have come behind it nothing is said
pub record ReadFrom (alone : Bool) (place₀ : List ℕ) (l₀ : Lent) (r : Came) (place : List ℕ) (l : Lent) : Type 0 where
  pub input : List ℕ
  pub arrivals : ℕ
  pub walk : Reads alone input place₀ l₀ arrivals (length input) r place l
  pub bytes : (i : ℕ) → get_or input i 0 < 256
