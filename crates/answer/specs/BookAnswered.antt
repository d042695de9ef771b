-- What proofs/BookAnswered.antt speaks of.
use Rattle.rules.specs.declared.Refusal.{Refusal}
use Rattle.std.specs.Prelude.{◌≡◌, true, false, List, [], ◌∷◌, ◌++◌, map, ℕ, ◌+◌, ◌≤◌, ◌<◌, length, get_or, Result, Ok, Err}
use Rattle.rules.specs.declared.Refusal.TheVariants.{WrongState}
use Rattle.rules.specs.declared.ReportRow.{ReportRow}
use Rattle.rules.specs.Refusals.{taken}
use Rattle.rules.specs.Book.{Requirement, covers, Book}
use Rattle.rules.specs.RequirementRecord.{requirement_record}
use Rattle.rules.specs.WholeBook.{book}
use Rattle.rules.specs.Members.{unit, residual}
use Rattle.rules.specs.Answer.{Line, answer, Answer as Full}
use Rattle.rules.specs.Report.{report_rows}
use Rattle.interval.specs.declared.Tally.{Tally}
use Rattle.interval.specs.Tally.{before_units}
use Rattle.interval.specs.Lent.{Lent}
use Rattle.kept.specs.Kept.{region_of, row_standing, residual_row}
use Rattle.chain.specs.Taken.{counts_in}
use Rattle.chain.specs.Chain.{Chain}
use Rattle.chain.specs.BookWay.{records_in, Takes}
use Rattle.chain.specs.Keeps.{BookMeans}
use Rattle.chain.specs.Spelled.{spelled}
use Rattle.answer.specs.declared.Answer.{Answer}
use Rattle.answer.specs.declared.Row.{Row}
use Rattle.answer.specs.Lists.{gathered}
use Rattle.answer.specs.Roster.{Named, row_says, MemberPromise}
use Rattle.answer.specs.Report.{ReportPromise}
use Rattle.answer.specs.Promises.{Columns, columns_long, shown, with_lines, AnswerPromise}

-- an answer's figures, and from the front of each column on a number of each of its lines
pub record Answers (q : Requirement) (a : Full) (old : Columns) (r : Result Answer Refusal) (new : Columns) : Type 0 where
  pub reply : r ≡ Ok (shown q a)
  pub written : new ≡ with_lines a old

-- a line's name and standing
abbrev pub line_named : Line → Named
line_named l = record { name = l.name; standing = l.standing }

-- ---- THE RULES' ANSWER about a book, to a requirement whose record starts a part: what the calls give that are handed this part
pub record RulesAnswer (b : Book) (t : Tally) (l : Lent) (part : List ℕ) (q : Requirement) : Type 0 where
  -- `answer` gives its figures and its lines' numbers, and refuses nothing
  pub answered : {old new : Columns} {r : Result Answer Refusal} → columns_long t.units old ≡ true → AnswerPromise t part l old r new → Answers q (answer b q) old r new
  -- `member` tells of each row: a member of the requirement's regions, with its number and standing, or none: the row is of another region, or passed over
  pub rows :
      (j : ℕ) → j < t.units → {r : Row} → MemberPromise t j q.direction q.set l r → r ≡ row_says l q.direction q.set j
  -- and those members in their order, then the residual, have the names and standings of its lines
  pub lines :
      map line_named (answer b q).lines ≡
      gathered (λ j. covers q (region_of l j))
      (λ j. record { name = unit (get_or l.numbers j 0); standing = row_standing l q.direction j }) t.units
      ++ (record { name = residual; standing = (residual_row t l q).standing } ∷ [])

-- to every requirement, asked for with any part that its record starts, cut or not, of the book or any other
abbrev pub RulesAnswers : Book → Tally → Lent → Type 0
RulesAnswers b t l = (part : List ℕ) (q : Requirement) → requirement_record 0 false part ≡ taken q → RulesAnswer b t l part q

-- ---- THE RULES' REPORT of a book: what `report` gives, each of its rows by its number from 0, z standing where a report has none; past the last row 11
pub record Reports (b : Book) (row version : ℕ) (r : Result ReportRow Refusal) : Type 0 where
  pub there : (z : ReportRow) → row < length (report_rows b version) → r ≡ Ok (get_or (report_rows b version) row z)
  pub past : length (report_rows b version) ≤ row → r ≡ Err WrongState

abbrev pub RulesReport : Book → Tally → Lent → Type 0
RulesReport b t l = (row version : ℕ) (r : Result ReportRow Refusal) → ReportPromise t row version l r → Reports b row version r

-- the book's requirements are asked for by their own parts; z stands where a book has none
abbrev pub Asks : List ℕ → (ℕ → List ℕ) → Book → Type 0
Asks head part b =
    (i : ℕ) (z : Requirement) → i < length b.requirements →
    requirement_record 0 false (part (before_units + (counts_in head).units + i)) ≡ taken (get_or b.requirements i z)

-- at the chain's end
pub record SpelledAnswered (head : List ℕ) (part : ℕ → List ℕ) (t : Tally) (l : Lent) : Type 0 where
  pub the_book : Book
  pub spells : book (spelled head part) ≡ taken the_book
  pub means : BookMeans the_book t l
  pub answers : RulesAnswers the_book t l
  pub asks : Asks head part the_book

-- ---- OF A BOOK that the format takes, handed on whole or cut, with lists that are long enough
pub record BookAnswered (b : Book) (head : List ℕ) (part : ℕ → List ℕ) (l₀ : Lent) : Type 0 where
  -- whatever is refused in between, the calls take every record
  pub takes : Takes head part l₀ (records_in head)
  pub means : {t : Tally} {l : Lent} → Chain head part l₀ (records_in head) t l → BookMeans b t l
  -- and give the rules' answers from the last unit on
  pub answers : {n : ℕ} {t : Tally} {l : Lent} → Chain head part l₀ n t l → before_units + (counts_in head).units ≤ n → RulesAnswers b t l
  pub asks : Asks head part b
