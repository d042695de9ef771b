-- The cursor of a listing as the firmware holds it, in sixteen words: how many bytes the last call wrote; the stage, 0 the interval's line, 1 a requirement yet
-- to be answered, 2 the line of one that is answered, 3 its members; the requirement, from 0; the row; the members before it; the requirement's number, its
-- direction and its region set; and the eight words of its answer. Words that a stage does not use are 0, so that sixteen zeros are the first cursor.
use Rattle.std.specs.Prelude.{◌≡◌, Bool, ◌&&◌, List, ◌∷◌, ◌++◌, ℕ, zero, suc, ◌≤◌, ◌<◌, leb, ltb, length, get_or, drop}
use Rattle.rules.specs.declared.Direction.{Direction}
use Rattle.rules.specs.declared.Direction.TheVariants.{Raise, Lower}
use Rattle.rules.specs.declared.Reason.TheVariants.{UnreliableRegion, BadUnit, NoGoodUnit}
use Rattle.rules.specs.declared.Standing.{Standing}
use Rattle.rules.specs.declared.Standing.TheVariants.{Live, Default}
use Rattle.rules.specs.declared.Refusal.TheVariants.{WrongState, TooShort}
use Rattle.rules.specs.Refusals.{Reply, taken, unless}
use Rattle.answer.specs.declared.Answer.{Answer}
use Rattle.dullavane.specs.Asked.{direction_of}
use Rattle.dullavane.specs.Answers.{figures_of}
use Rattle.lister.specs.declared.Cursor.{Cursor}
use Rattle.lister.specs.declared.Cursor.TheVariants as at

-- how many words a cursor takes
abbrev pub cursor_words : ℕ
cursor_words = 16

-- ---- a cursor in its words
abbrev pub direction_number : Direction → ℕ
direction_number Raise = 0
direction_number Lower = 1

abbrev pub no_answer : Answer
no_answer =
    record {
      number = 0;
      direction = Raise;
      set = 0;
      members = 0;
      residual = Live;
      rcr = 0;
      pool = 0;
      used = record { pool = 0; unplaced = 0 };
      unused = record { pool = 0; unplaced = 0 };
    }

-- the words, and those past the sixteen as they were; the last eight are in the order of an answer's reply
abbrev pub words_at : ℕ → ℕ → ℕ → ℕ → ℕ → Answer → List ℕ → List ℕ
words_at written stage requirement row before a ws =
    written
    ∷ stage
    ∷ requirement
    ∷ row
    ∷ before
    ∷ a.number
    ∷ direction_number a.direction
    ∷ a.set
    ∷ (figures_of a ++ drop cursor_words ws)

abbrev pub cursor_words_of : ℕ → Cursor → List ℕ → List ℕ
cursor_words_of written at.Interval ws = words_at written 0 0 0 0 no_answer ws
cursor_words_of written (at.Requirement k) ws = words_at written 1 k 0 0 no_answer ws
cursor_words_of written (at.Answered k a) ws = words_at written 2 k 0 0 a ws
cursor_words_of written (at.Members k a row before) ws = words_at written 3 k row before a ws

-- ---- and back
abbrev pub standing_in : ℕ → Standing
standing_in zero = Live
standing_in (suc zero) = Default UnreliableRegion
standing_in (suc (suc zero)) = Default BadUnit
standing_in (suc (suc (suc n))) = Default NoGoodUnit

abbrev pub answer_in : List ℕ → Answer
answer_in ws =
    record {
      number = get_or ws 5 0;
      direction = direction_of (get_or ws 6 0);
      set = get_or ws 7 0;
      members = get_or ws 8 0;
      residual = standing_in (get_or ws 15 0);
      rcr = get_or ws 9 0;
      pool = get_or ws 10 0;
      used = record { pool = get_or ws 11 0; unplaced = get_or ws 13 0 };
      unused = record { pool = get_or ws 12 0; unplaced = get_or ws 14 0 };
    }

abbrev pub cursor_at : ℕ → List ℕ → Cursor
cursor_at zero ws = at.Interval
cursor_at (suc zero) ws = at.Requirement (get_or ws 2 0)
cursor_at (suc (suc zero)) ws = at.Answered (get_or ws 2 0) (answer_in ws)
cursor_at (suc (suc (suc n))) ws = at.Members (get_or ws 2 0) (answer_in ws) (get_or ws 3 0) (get_or ws 4 0)

abbrev pub cursor_of : List ℕ → Cursor
cursor_of ws = cursor_at (get_or ws 1 0) ws

-- each word within its width, whatever the stage: a stage is 0 to 3, a direction 0 or 1, a standing 0 to 3; requirement, row, members before, number and
-- members are 16 bits, a region set 8; the other figures are as wide as a word
unfoldable pub words_fit : List ℕ → Bool
words_fit ws =
    ltb (get_or ws 1 0) 4
    && (ltb (get_or ws 2 0) 65_536
    && (ltb (get_or ws 3 0) 65_536
    && (ltb (get_or ws 4 0) 65_536
    && (ltb (get_or ws 5 0) 65_536
    && (ltb (get_or ws 6 0) 2
    && (ltb (get_or ws 7 0) 256
    && (ltb (get_or ws 8 0) 65_536
    && ltb (get_or ws 15 0) 4)))))))

-- the cursor that words hold, or why they hold none
unfoldable pub cursor_held : List ℕ → Reply Cursor
cursor_held ws =
    unless (leb cursor_words (length ws)) TooShort (unless (words_fit ws) WrongState (taken (cursor_of ws)))

pub record Narrow (ws : List ℕ) : Type 0 where
  pub stage : get_or ws 1 0 < 4
  pub requirement : get_or ws 2 0 < 65_536
  pub row : get_or ws 3 0 < 65_536
  pub before : get_or ws 4 0 < 65_536
  pub number : get_or ws 5 0 < 65_536
  pub direction : get_or ws 6 0 < 2
  pub set : get_or ws 7 0 < 256
  pub members : get_or ws 8 0 < 65_536
  pub standing : get_or ws 15 0 < 4

-- words that hold a cursor
pub record Held (ws : List ℕ) : Type 0 where
  pub long : cursor_words ≤ length ws
  pub narrow : Narrow ws
  pub cursor : cursor_held ws ≡ taken (cursor_of ws)

-- ---- a cursor whose numbers are within their widths
pub record AnswerFits (a : Answer) : Type 0 where
  pub number : a.number < 65_536
  pub set : a.set < 256
  pub members : a.members < 65_536

abbrev pub CursorFits : Cursor → Type 0
CursorFits at.Interval = Unit {0}
CursorFits (at.Requirement k) = k < 65_536
CursorFits (at.Answered k a) = (k < 65_536) × AnswerFits a
CursorFits (at.Members k a row before) = (k < 65_536) × AnswerFits a × (row < 65_536) × (before < 65_536)
