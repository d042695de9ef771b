-- What proofs/PanelWords.antt speaks of: what a caller from C has after a key press (02, R-13), which is handed what dullavane_answer left: eight words of
-- reply, and the columns.
use Rattle.std.specs.Prelude.{◌≡◌, true, false, List, ℕ, ◌≤◌, ◌<◌, length}
use Rattle.rules.specs.Refusals.{taken}
use Rattle.rules.specs.Book.{Requirement, Book}
use Rattle.rules.specs.RequirementRecord.{requirement_record}
use Rattle.rules.specs.Panel.{page_places}
use Rattle.interval.specs.declared.Tally.{Tally}
use Rattle.interval.specs.Lent.{Lent}
use Rattle.answer.specs.Promises.{Columns, columns_long}
use Rattle.panel.specs.BookPages.{cents_of, turned_to}
use Rattle.dullavane.specs.Answers.{reply_words, AnswerCalled}
use Rattle.dullavane_panel.specs.Words.{keys, key_of, page_words, page_of, with_page}
use Rattle.dullavane_panel.specs.Called.{PressCalled}
use Rattle.demands.specs.Panel.{Shows}

-- 0, the page that the key turns to in the three words, and that page in the text; words and bytes past them stay
pub record PressTold (b : Book) (q : Requirement) (key number : ℕ) (ws old : List ℕ) (r : ℕ) (ws' new : List ℕ) : Type 0 where
  pub reply : r ≡ 0
  pub words : ws' ≡ with_page (turned_to b q (page_of ws) (key_of key) number) ws
  pub text : Shows b q (turned_to b q (page_of ws) (key_of key) number).page old new

-- for every requirement, asked for with any part that its record starts: with columns, reply, page and text that are long enough, and a key from 0 to 3
pub record WordsPages (b : Book) (t : Tally) (ts : List ℕ) (l : Lent) : Type 0 where
  pub shows :
      (part : List ℕ) (q : Requirement) → requirement_record 0 false part ≡ taken q → {old new : Columns} {reply reply' : List ℕ} {r : ℕ} →
      columns_long t.units old ≡ true → reply_words ≤ length reply → AnswerCalled ts part l old reply r new reply' →
      (key number : ℕ) → key < keys → {ws ws' text text' : List ℕ} {x : ℕ} → page_words ≤ length ws → page_places ≤ length text →
      PressCalled key number ts part l (cents_of new) reply' ws text x ws' text' → PressTold b q key number ws text x ws' text'
