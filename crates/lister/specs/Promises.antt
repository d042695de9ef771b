-- What `list` promises, completely: its reply, each number of the columns and each byte of the text, on refusals too. From the cursor on the listing moves as
-- long as a line has room.
use Rattle.std.specs.Prelude.{◌≡◌, Bool, true, ◌&&◌, ◌||◌, List, [], ◌∷◌, ◌++◌, ℕ, ◌-◌, ◌*◌, ◌≤◌, ◌<◌, eqb, leb, length, drop}
use Rattle.rules.specs.declared.Refusal.{Refusal}
use Rattle.rules.specs.declared.Refusal.TheVariants.{WrongState, EndsEarly, TooShort}
use Rattle.rules.specs.Refusals.{Reply, taken, refused, unless}
use Rattle.rules.specs.Contents.{requirement_size}
use Rattle.interval.specs.declared.Tally.{Tally}
use Rattle.interval.specs.Tally.{in_range, book_end}
use Rattle.interval.specs.Lent.{Lent}
use Rattle.answer.specs.Promises.{Columns}
use Rattle.lister.specs.declared.Cursor.{Cursor}
use Rattle.lister.specs.declared.Cursor.TheVariants as at
use Rattle.lister.specs.declared.Listed.{Listed}
use Rattle.lister.specs.declared.Listed.TheVariants.{Written, Nothing, Refused}
use Rattle.lister.specs.Move.{Move, moves, ends, refuses, move}

-- no line is longer
abbrev pub longest_line : ℕ
longest_line = 165

-- before a requirement that is yet to be answered the longest line has room
abbrev pub room_for_any : Tally → Cursor → ℕ → Bool
room_for_any t at.Interval room = true
room_for_any t (at.Requirement k) room = leb longest_line room || leb t.requirements k
room_for_any t (at.Answered k a) room = true
room_for_any t (at.Members k a row place) room = true

-- 11 for a tally that is out of range or before the book's end, 1 for bytes that end before the last requirement, 12 for a text that is too short
unfoldable pub list_tests : Tally → ℕ → Cursor → ℕ → Reply Cursor
list_tests t bytes c room =
    unless (in_range t && eqb t.records (book_end t)) WrongState
    (unless (leb (requirement_size * t.requirements) bytes) EndsEarly
    (unless (room_for_any t c room) TooShort
    (taken c)))

-- a line that has no room there, the end, or a refusal stops a listing
abbrev pub Stops : ℕ → Move → Type 0
Stops room (moves line next c) = room < length line
Stops room ends = Unit {0}
Stops room (refuses r) = Unit {0}

module _ (t : Tally) (bytes : List ℕ) (l : Lent) where
  -- ---- moves one after another, with the lines that they say
  pub data Goes : Cursor → Columns → List ℕ → Cursor → Columns → Type 0 where
    stays : {at : Cursor} {c : Columns} → Goes at c [] at c
    and_then :
        {at next last : Cursor} {c c₁ c₂ : Columns} {line lines : List ℕ} → move t bytes l at c ≡ moves line next c₁ → Goes next c₁ lines last c₂ →
        Goes at c (line ++ lines) last c₂

  -- as many lines as have room
  pub record Piece (room : ℕ) (at : Cursor) (c : Columns) (lines : List ℕ) (next : Cursor) (c' : Columns) : Type 0 where
    pub goes : Goes at c lines next c'
    pub fits : length lines ≤ room
    pub stops : Stops (room - length lines) (move t bytes l next c')

-- what is told of a piece by why it stops: where no line was said, 12 if one had no room
abbrev pub piece_told : List ℕ → Cursor → Move → Listed
piece_told [] next (moves line then c) = Refused TooShort
piece_told [] next ends = Nothing
piece_told [] next (refuses r) = Refused r
piece_told (x ∷ lines) next why = Written (length (x ∷ lines)) next

pub record ListedPiece (at : Cursor) (t : Tally) (bytes : List ℕ) (l : Lent) (c : Columns) (old : List ℕ) (r : Listed) (c' : Columns) (new : List ℕ)
    : Type 0 where
  pub lines : List ℕ
  pub next : Cursor
  pub piece : Piece t bytes l (length old) at c lines next c'
  pub reply : r ≡ piece_told lines next (move t bytes l next c')
  pub text : new ≡ lines ++ drop (length lines) old

-- nothing is written
pub record Unlisted (why : Refusal) (c : Columns) (old : List ℕ) (r : Listed) (c' : Columns) (new : List ℕ) : Type 0 where
  pub reply : r ≡ Refused why
  pub columns : c' ≡ c
  pub text : new ≡ old

abbrev pub ByTests : Reply Cursor → Tally → List ℕ → Lent → Columns → List ℕ → Listed → Columns → List ℕ → Type 0
ByTests (taken at) t bytes l c old r c' new = ListedPiece at t bytes l c old r c' new
ByTests (refused why) t bytes l c old r c' new = Unlisted why c old r c' new

-- ---- the promise
pub record ListPromise (at : Cursor) (t : Tally) (bytes : List ℕ) (l : Lent) (c : Columns) (old : List ℕ) (r : Listed) (c' : Columns) (new : List ℕ)
    : Type 0 where
  pub kept : ByTests (list_tests t (length bytes) at (length old)) t bytes l c old r c' new
