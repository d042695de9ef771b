-- The reading of a book as a step: where the next bytes go, and what follows once so many have come. Any reading, any place and any bytes have one answer.
use Rattle.rules.specs.declared.Located.{Located}
use Rattle.rules.specs.declared.Refusal.{Refusal}
use Rattle.std.specs.Prelude.{◌≡◌, Bool, cond, ◌&&◌, List, ℕ, ◌+◌, ◌*◌, ◌-◌, ◌≤◌, ◌<◌, min, eqb, length, take, drop, Result, Ok, Err, ⊤}
use Rattle.rules.specs.declared.Refusal.TheVariants.{WrongState}
use Rattle.rules.specs.Refusals.{located}
use Rattle.rules.specs.Contents.{contents_size, requirement_size}
use Rattle.interval.specs.declared.Tally.{Tally}
use Rattle.interval.specs.declared.Step.{Step}
use Rattle.interval.specs.Tally.{units_end, book_end}
use Rattle.interval.specs.Lent.{Lent}
use Rattle.interval.specs.Promises.{ContentsPromise}
use Rattle.chain.specs.BookRecords.{record_size}
use Rattle.reader.specs.declared.Reading.{Reading}
use Rattle.reader.specs.declared.Reading.TheVariants.{Contents, Record}
use Rattle.reader.specs.declared.Wanted.{Wanted}
use Rattle.reader.specs.declared.Came as c
use Rattle.reader.specs.declared.Came.{Came}
use Rattle.reader.specs.declared.Span.{Span}
use Rattle.reader.specs.Turns.{TurnPromise}

-- so many records are all of the book
abbrev pub is_end : ℕ → Tally → Bool
is_end records t = eqb records (book_end t)

-- ---- the bytes that are asked for: those of the record, and one more with the last where the book stands alone, so that a byte that follows is seen
unfoldable pub asked : Tally → Bool → ℕ
asked t alone = record_size t.units t.records + cond (alone && is_end (t.records + 1) t) 1 0

-- where they stand: the requirements one after the other, the table of contents and every other record at the front
abbrev pub span_of : Reading → Bool → Span
span_of (Contents got) alone = record { start = 0; end = contents_size; got = got }
span_of (Record t got) alone =
    let start = requirement_size * (t.records - units_end t) in
    record { start = start; end = start + asked t alone; got = got }

-- those that have not come, as far as there is room
abbrev pub wanted_in : Span → ℕ → Wanted
wanted_in s room = let to = min s.end room in record { from = min (s.start + s.got) to; to = to }

abbrev pub wanted_part : Reading → Bool → ℕ → Wanted
wanted_part reading alone room = wanted_in (span_of reading alone) room

pub record WantedPromise (reading : Reading) (alone : Bool) (room : ℕ) (r : Wanted) : Type 0 where
  pub reply : r ≡ wanted_part reading alone room
  pub ordered : r.from ≤ r.to
  pub inside : r.to ≤ room

-- ---- so many have come
abbrev pub with_got : ℕ → Reading → Reading
with_got got (Contents _) = Contents got
with_got got (Record t _) = Record t got

-- what is there of the record then
abbrev pub there_of : Span → Wanted → ℕ → List ℕ → List ℕ
there_of s w count bytes = take (w.from + count - s.start) (drop s.start bytes)

-- what follows an opened book, and a record that went to its call
abbrev pub after_contents : Result Tally Refusal → Came
after_contents (Ok t) = c.TheVariants.Wants (Record t 0)
after_contents (Err x) = c.TheVariants.Refused (located 0 x)

abbrev pub after_record : Result ⊤ Located → Tally → Came
after_record (Ok tt) t = cond (is_end t.records t) (c.TheVariants.Taken t) (c.TheVariants.Wants (Record t 0))
after_record (Err why) t = c.TheVariants.Refused why

pub record ContentsCame (p : List ℕ) (r : Came) : Type 0 where
  pub opened : Result Tally Refusal
  pub promise : ContentsPromise p opened
  pub reply : r ≡ after_contents opened

pub record RecordCame (t : Tally) (p : List ℕ) (l : Lent) (r : Came) (l' : Lent) : Type 0 where
  pub step : Step
  pub turn : TurnPromise t p l step l'
  pub reply : r ≡ after_record step.taking step.tally

abbrev pub HandedOn : Reading → List ℕ → Lent → Came → Lent → Type 0
HandedOn (Contents got) p l r l' = ContentsCame p r × (l' ≡ l)
HandedOn (Record t got) p l r l' = RecordCame t p l r l'

-- more than were wanted; some, and more are wanted; or all, or an end: then what is there goes to its call
abbrev pub TooMany : Wanted → ℕ → Type 0
TooMany w count = w.to - w.from < count

abbrev pub Some : Wanted → ℕ → Type 0
Some w count = (1 ≤ count) × (w.from + count < w.to)

abbrev pub All : Wanted → ℕ → Type 0
All w count = (count ≤ w.to - w.from) × (1 ≤ count → w.from + count ≡ w.to)

pub data CamePromise (reading : Reading) (alone : Bool) (count : ℕ) (bytes : List ℕ) (l : Lent) (r : Came) (l' : Lent) : Type 0 where
  too_many :
      TooMany (wanted_part reading alone (length bytes)) count → r ≡ c.TheVariants.Refused (located 0 WrongState) → l' ≡ l →
      CamePromise reading alone count bytes l r l'
  some :
      Some (wanted_part reading alone (length bytes)) count → r ≡ c.TheVariants.Wants (with_got ((span_of reading alone).got + count) reading) → l' ≡ l →
      CamePromise reading alone count bytes l r l'
  all :
      All (wanted_part reading alone (length bytes)) count →
      HandedOn reading (there_of (span_of reading alone) (wanted_part reading alone (length bytes)) count bytes) l r l' →
      CamePromise reading alone count bytes l r l'
