-- The rules' answer over words: what dullavane_answer and dullavane_member give of it. Words and numbers past those named stay.
use Rattle.std.specs.Prelude.{◌≡◌, Bool, true, false, List, [], ◌∷◌, ◌++◌, map, ℕ, ◌≤◌, ◌<◌, eqb, length, get_or, drop}
use Rattle.rules.specs.Refusals.{taken}
use Rattle.rules.specs.Book.{Requirement, Book}
use Rattle.rules.specs.RequirementRecord.{requirement_record}
use Rattle.rules.specs.Members.{Name, unit, residual}
use Rattle.rules.specs.Answer.{Line, answer, Answer as Full}
use Rattle.interval.specs.declared.Tally.{Tally}
use Rattle.interval.specs.Lent.{Lent}
use Rattle.answer.specs.Lists.{gathered}
use Rattle.answer.specs.Roster.{row_says}
use Rattle.answer.specs.Promises.{Columns, columns_long, last_standing, with_lines}
use Rattle.dullavane.specs.Asked.{standing_number, member_words, row_after, MemberCalled}
use Rattle.dullavane.specs.Answers.{reply_words, AnswerCalled}

-- an answer's eight words: members, RCR, pool, used pool, unused pool, unplaced of used and of unused, and how the residual stands
abbrev pub figures_told : Full → List ℕ
figures_told a =
    length a.lines ∷ a.rcr ∷ a.pool ∷ a.used_pool ∷ a.unused_pool ∷ a.unplaced_used ∷ a.unplaced_unused
    ∷ standing_number (last_standing a.lines)
    ∷ []

-- what dullavane_answer gives of an answer: 0, the eight words, and from the front of each column on a number of each line
pub record Tells (a : Full) (old : Columns) (reply : List ℕ) (r : ℕ) (new : Columns) (reply' : List ℕ) : Type 0 where
  pub number : r ≡ 0
  pub words : reply' ≡ figures_told a ++ drop reply_words reply
  pub columns : new ≡ with_lines a old

-- ---- dullavane_member for row j, lent three words, and asked with the direction and the region set that stand in bytes 3 and 2 of the part; it returns r
abbrev pub MemberWords : List ℕ → List ℕ → Lent → ℕ → List ℕ → ℕ → List ℕ → Type 0
MemberWords ws part l j us r us' = MemberCalled ws j (get_or part 3 0) (get_or part 2 0) l us r us'

-- a walk over the rows: a call for each, which leaves its words in `row`
pub record Walk (ws part : List ℕ) (l : Lent) (units : ℕ) (row : ℕ → List ℕ) : Type 0 where
  pub lent : ℕ → List ℕ
  pub long : (j : ℕ) → j < units → member_words ≤ length (lent j)
  pub number : ℕ → ℕ
  pub called : (j : ℕ) → j < units → MemberWords ws part l j (lent j) (number j) (row j)

-- what three words tell: whether the row is a member, and its number and standing
pub record Told : Type 0 where
  pub name : Name
  pub standing : ℕ

abbrev pub is_member : List ℕ → Bool
is_member us = eqb (get_or us 0 0) 1

abbrev pub member_told : List ℕ → Told
member_told us = record { name = unit (get_or us 1 0); standing = get_or us 2 0 }

-- who is found on the walk: the members among the rows, and then the residual, whose standing is the last word of the answer's reply
abbrev pub found : (ℕ → List ℕ) → ℕ → List ℕ → List Told
found row units reply = gathered (λ j. is_member (row j)) (λ j. member_told (row j)) units ++ (record { name = residual; standing = get_or reply 7 0 } ∷ [])

-- what a line tells of its member
abbrev pub line_told : Line → Told
line_told l = record { name = l.name; standing = standing_number l.standing }

-- ---- THE RULES' ANSWER OVER WORDS, to a requirement whose record starts a part
pub record WordsAnswer (b : Book) (t : Tally) (ws : List ℕ) (l : Lent) (part : List ℕ) (q : Requirement) : Type 0 where
  -- dullavane_answer gives its figures and its lines' numbers
  pub answered :
      {old new : Columns} {reply reply' : List ℕ} {r : ℕ} →
      columns_long t.units old ≡ true → reply_words ≤ length reply → AnswerCalled ws part l old reply r new reply' →
      Tells (answer b q) old reply r new reply'
  -- dullavane_member gives of each row a unit of the requirement's regions with its number and standing, or another's
  pub rows :
      (j : ℕ) → j < t.units → {us us' : List ℕ} {r : ℕ} → member_words ≤ length us → MemberWords ws part l j us r us' →
      (r ≡ 0) × (us' ≡ row_after (row_says l q.direction q.set j) us)
  -- and a walk over the rows finds the names and standings of its lines
  pub lines : {row : ℕ → List ℕ} → Walk ws part l t.units row → map line_told (answer b q).lines ≡ found row t.units (figures_told (answer b q))

-- to every requirement, asked for with any part that its record starts, cut or not, of the book or any other
abbrev pub WordsAnswers : Book → Tally → List ℕ → Lent → Type 0
WordsAnswers b t ws l = (part : List ℕ) (q : Requirement) → requirement_record 0 false part ≡ taken q → WordsAnswer b t ws l part q
