-- What the functions behind `list` promise: how far the lines of a requirement have come.
use Rattle.std.specs.Prelude.{◌≡◌, Bool, true, false, cond, List, ◌++◌, ℕ, ◌+◌, ◌-◌, ◌≤◌, ◌<◌, ltb, length, take, drop, ℤ}
use Rattle.rules.specs.declared.Refusal.TheVariants.{WrongState, TooShort}
use Rattle.rules.specs.Refusals.{Reply, taken, refused}
use Rattle.interval.specs.declared.Tally.{Tally}
use Rattle.interval.specs.Lent.{Lent}
use Rattle.answer.specs.declared.Answer.{Answer}
use Rattle.answer.specs.Promises.{Columns}
use Rattle.lister.specs.declared.Cursor.{Cursor}
use Rattle.lister.specs.declared.Cursor.TheVariants as at
use Rattle.lister.specs.declared.Halt.{Halt}
use Rattle.lister.specs.declared.Halt.TheVariants as halt
use Rattle.lister.specs.declared.Step.{Step}
use Rattle.lister.specs.declared.Walked.{Walked}
use Rattle.lister.specs.declared.Listed.{Listed}
use Rattle.lister.specs.declared.Listed.TheVariants.{Written, Nothing, Refused}
use Rattle.lister.specs.Move.{Move, moves, ends, refuses, move}
use Rattle.lister.specs.Promises.{Goes}

-- what a listing is lent of what the calls kept; of the rest it reads nothing
abbrev pub lent_listing : Lent → List ℤ → List ℤ → List ℤ → List ℕ → List ℕ → List ℤ → Lent
lent_listing rest ms ss gs us hs rs =
    record {
      measures = ms;
      sums = ss;
      figures = gs;
      numbers = us;
      homes = hs;
      rows = rs;
      groups = rest.groups;
      deviations = rest.deviations;
    }

-- why it halts, by the move that would come and the room that is left
pub record NoRoom (room : ℕ) (m : Move) : Type 0 where
  pub line : List ℕ
  pub next : Cursor
  pub columns : Columns
  pub comes : m ≡ moves line next columns
  pub longer : room < length line

abbrev pub Halted : Halt → ℕ → Move → Type 0
Halted halt.On room m = Unit {0}
Halted halt.Full room m = NoRoom room m
Halted halt.Ended room m = m ≡ ends
Halted (halt.Refused r) room m = m ≡ refuses r

-- what is known where it goes on
abbrev pub WhereOn : Halt → Type 0 → Type 0
WhereOn halt.On A = A
WhereOn halt.Full A = Unit {0}
WhereOn halt.Ended A = Unit {0}
WhereOn (halt.Refused r) A = Unit {0}

-- from a cursor on, behind the first `done` bytes of a text: lines that have room, where they lead, and why it halts there
module _ (t : Tally) (bytes : List ℕ) (l : Lent) where
  pub record Runs (at : Cursor) (c : Columns) (done : ℕ) (old : List ℕ) (s : Step) (c' : Columns) (new : List ℕ) : Type 0 where
    pub lines : List ℕ
    pub goes : Goes t bytes l at c lines s.at c'
    pub count : s.done ≡ done + length lines
    pub fits : s.done ≤ length old
    pub text : new ≡ take done old ++ (lines ++ drop (done + length lines) old)
    pub halts : Halted s.halt (length old - s.done) (move t bytes l s.at c')

  -- the units of a requirement from a row on
  abbrev pub walked_step : ℕ → Answer → Walked → Step
  walked_step k a w = record { at = at.Members k a w.row w.place; done = w.done; halt = w.halt }

  -- a row; where it goes on the next comes
  pub record RowListed (k : ℕ) (a : Answer) (c : Columns) (row place done : ℕ) (old : List ℕ) (w : Walked) (new : List ℕ) : Type 0 where
    pub runs : Runs (at.Members k a row place) c done old (walked_step k a w) c new
    pub next : WhereOn w.halt (w.row ≡ row + 1)
    pub few : w.place ≤ w.row
    pub inside : w.row ≤ t.units

  -- all of them; where it goes on no row is left
  pub record UnitsListed (k : ℕ) (a : Answer) (c : Columns) (row place done : ℕ) (old : List ℕ) (w : Walked) (new : List ℕ) : Type 0 where
    pub runs : Runs (at.Members k a row place) c done old (walked_step k a w) c new
    pub behind : WhereOn w.halt (w.row ≡ t.units)
    pub few : w.place ≤ w.row
    pub inside : w.row ≤ t.units

-- ---- how many requirements are before a cursor, the interval as one more; and how many turns are left, none where a listing halts
abbrev pub cursor_left : ℕ → Cursor → ℕ
cursor_left requirements at.Interval = requirements + 1
cursor_left requirements (at.Requirement k) = requirements - k
cursor_left requirements (at.Answered k a) = requirements - k
cursor_left requirements (at.Members k a row place) = requirements - k

abbrev pub is_on : Halt → Bool
is_on halt.On = true
is_on halt.Full = false
is_on halt.Ended = false
is_on (halt.Refused r) = false

abbrev pub turns_left : ℕ → Cursor → Halt → ℕ
turns_left requirements at halt = cond (is_on halt) (1 + cursor_left requirements at) 0

-- a turn: lines of a requirement to its end, so that fewer turns are left
pub record Turns (t : Tally) (bytes : List ℕ) (l : Lent) (at : Cursor) (c : Columns) (done : ℕ) (old : List ℕ) (s : Step) (c' : Columns) (new : List ℕ)
    : Type 0 where
  pub runs : Runs t bytes l at c done old s c' new
  pub less : turns_left t.requirements s.at s.halt < 1 + cursor_left t.requirements at

-- behind the last requirement nothing is left; past that there is none
abbrev pub halt_behind : ℕ → ℕ → Halt
halt_behind requirements k = cond (ltb requirements k) (halt.Refused WrongState) halt.Ended

-- ---- what `list` makes of it
abbrev pub halt_of : Reply Cursor → Halt
halt_of (taken at) = halt.On
halt_of (refused r) = halt.Refused r

abbrev pub untold : Halt → Listed
untold halt.On = Refused TooShort
untold halt.Full = Refused TooShort
untold halt.Ended = Nothing
untold (halt.Refused r) = Refused r

abbrev pub told_as : Cursor → ℕ → Halt → Listed
told_as at done halt = cond (ltb 0 done) (Written done at) (untold halt)
