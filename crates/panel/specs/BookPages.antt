-- What proofs/BookPages.antt speaks of: key presses over what `answer` gave of a book's requirement show the pages of the rules' answer (02, R-13).
use Rattle.rules.specs.declared.Refusal.{Refusal}
use Rattle.std.specs.Prelude.{◌≡◌, true, false, List, [], ◌++◌, ℕ, ◌≤◌, length, get_or, drop, Result, Ok}
use Rattle.rules.specs.declared.Page.{Page}
use Rattle.rules.specs.declared.Key.{Key}
use Rattle.rules.specs.Refusals.{taken}
use Rattle.rules.specs.Book.{Requirement, Book}
use Rattle.rules.specs.RequirementRecord.{requirement_record}
use Rattle.rules.specs.Answer.{answer}
use Rattle.rules.specs.Panel.{page_places, pages}
use Rattle.rules.specs.Keys.{step}
use Rattle.interval.specs.declared.Tally.{Tally}
use Rattle.interval.specs.Lent.{Lent}
use Rattle.answer.specs.declared.Answer.{Answer}
use Rattle.answer.specs.Promises.{Columns, columns_long, shown, AnswerPromise}
use Rattle.panel.specs.declared.Shown.{Shown}
use Rattle.panel.specs.Press.{Cents, cents, PressPromise}

-- what a press is handed of an answer: of its reply, and of its columns
abbrev pub shown_of : Answer → Shown
shown_of a = record { members = a.members; rcr = a.rcr; pool = a.pool; residual = a.residual }

abbrev pub cents_of : Columns → Cents
cents_of c = cents c.payments c.used c.unused

-- the page that a key turns to, of a requirement's answer about a book; the display calls the book by a number
abbrev pub turned_to : Book → Requirement → Page → Key → ℕ → Page
turned_to b q p key number = step p key number q.number (length (answer b q).lines)

-- that page is drawn at the front of the text, and every other byte stays
pub record PageShown (b : Book) (q : Requirement) (p : Page) (key : Key) (number : ℕ) (old : List ℕ) (r : Result Page Refusal) (new : List ℕ) : Type 0 where
  pub page : r ≡ Ok (turned_to b q p key number)
  pub text : new ≡ get_or (pages q (answer b q)) (turned_to b q p key number).page [] ++ drop page_places old

-- ---- of what `answer` replied and left in the columns each press shows a page of the rules' answer, and refuses nothing
pub record BookPages (b : Book) (t : Tally) (l : Lent) (part : List ℕ) (q : Requirement) (r : Result Answer Refusal) (c : Columns) : Type 0 where
  pub given : r ≡ Ok (shown q (answer b q))
  pub pressed :
      (p : Page) (key : Key) (number : ℕ) {old new : List ℕ} {x : Result Page Refusal} → page_places ≤ length old →
      PressPromise p key number t part (shown_of (shown q (answer b q))) l (cents_of c) old x new → PageShown b q p key number old x new

-- for every requirement, asked for with any part that its record starts, cut or not, of the book or any other, over columns that are long enough
pub record PagesShown (b : Book) (t : Tally) (l : Lent) : Type 0 where
  pub shows :
      (part : List ℕ) (q : Requirement) → requirement_record 0 false part ≡ taken q → {old new : Columns} {r : Result Answer Refusal} →
      columns_long t.units old ≡ true → AnswerPromise t part l old r new → BookPages b t l part q r new
