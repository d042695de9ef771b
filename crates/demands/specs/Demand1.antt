-- What proofs/Demand1.antt speaks of.
use Rattle.std.specs.Prelude.{◌≡◌, List, ℕ, ◌+◌, ◌-◌, ◌≤◌, Result, Ok, Err}
use Rattle.rules.specs.declared.Refusal.{Refusal}
use Rattle.rules.specs.declared.Located.{Located}
use Rattle.rules.specs.Quantities.{most_units}
use Rattle.rules.specs.Refusals.{taken, refused}
use Rattle.rules.specs.Book.{Book}
use Rattle.rules.specs.WholeBook.{book}
use Rattle.interval.specs.declared.Tally.{Tally}
use Rattle.interval.specs.declared.Step.{Step}
use Rattle.interval.specs.Lent.{Lent}
use Rattle.interval.specs.Calls.{refused_step}
use Rattle.chain.specs.Chain.{Taken}
use Rattle.interval.specs.Run.{in_run, records_in as records_of_run, RunPromise}
use Rattle.chain.specs.Runs.{RunOutcome}
use Rattle.chain.specs.BookWay.{records_in, Takes, Meets}
use Rattle.answer.specs.declared.Answer.{Answer}
use Rattle.answer.specs.Promises.{Columns}
use Rattle.dullavane.specs.Words.{said}
use Rattle.demands.specs.WordsChain.{Turn, words_added}
use Rattle.demands.specs.WordsCalls.{StepCall}

-- ---- a call that takes a record, with any tally t, any bytes p and any lists l: 'an answer or a numbered refusal'. The record is taken, or the refusal stands
-- beside the tally as it came, with its number, the place of the record that was to be taken, and t, and no list is written
pub data Outcome (t : Tally) (l : Lent) (r : Step) (l' : Lent) : Type 0 where
  takes : Taken r → Outcome t l r l'
  refuses : (why : Refusal) → r ≡ refused_step t why → l' ≡ l → Outcome t l r l'

-- there is one such answer that its promise allows, and no other
pub record OneAnswer (turn : Turn) (t : Tally) (p : List ℕ) (l : Lent) : Type 0 where
  pub reply : Step
  pub lists : Lent
  pub promised : StepCall p t l reply lists turn
  pub only : {r : Step} {l' : Lent} → StepCall p t l r l' turn → (r ≡ reply) × (l' ≡ lists)
  pub outcome : Outcome t l reply lists

-- ---- an answer to a requirement, asked for with any tally, bytes and lists: given, or refused with nothing written; the tally goes by value
pub data AnswerOutcome (old : Columns) (r : Result Answer Refusal) (new : Columns) : Type 0 where
  gives : (a : Answer) → r ≡ Ok a → AnswerOutcome old r new
  refuses : (why : Refusal) → r ≡ Err why → new ≡ old → AnswerOutcome old r new

-- ---- a call from C on any words: 0, or a refusal with number, place and t, and then words and lists are as they came
pub data WordsOutcome (ws : List ℕ) (l : Lent) (r : ℕ) (ws' : List ℕ) (l' : Lent) : Type 0 where
  takes : r ≡ 0 → WordsOutcome ws l r ws' l'
  refuses : (why : Located) → r ≡ said why → ws' ≡ ws → l' ≡ l → WordsOutcome ws l r ws' l'

-- ---- a run of units (02, R-6, which amends the demand for it): with any tally, any bytes and any lists there is one answer that its promise allows. A refusal
-- leaves what the records before the refused one have left, each taken as a single call takes it
pub record OneRun (t : Tally) (run : List ℕ) (l : Lent) : Type 0 where
  pub reply : Step
  pub lists : Lent
  pub promised : RunPromise t run l reply lists
  pub only : {r : Step} {l' : Lent} → RunPromise t run l r l' → (r ≡ reply) × (l' ≡ lists)
  pub outcome : RunOutcome t run l reply lists

-- from C on any words: 0, and every record was added, or a refusal with number, place in the run and t, which the header's macros take apart, since no place
-- is past 513. As many records were added as stand before that place, which the third word counts; where none does, words and lists are as they came
pub data WordsRunOutcome (ws run : List ℕ) (l : Lent) (r : ℕ) (ws' : List ℕ) (l' : Lent) : Type 0 where
  takes : r ≡ 0 → words_added ws ws' ≡ records_of_run run → WordsRunOutcome ws run l r ws' l'
  refuses :
      (place : ℕ) (why : Refusal) → r ≡ said (in_run place why) → place ≤ most_units + 1 → words_added ws ws' ≡ place - 1 →
      (place ≤ 1 → (ws' ≡ ws) × (l' ≡ l)) →
      WordsRunOutcome ws run l r ws' l'

-- ---- 'a book of arbitrary bytes': handed on whole or cut, with whatever refused calls in between, the calls take it to its end where the format takes it, and
-- meet the refusal of the format where it does not
pub data BookOutcome (bs head : List ℕ) (part : ℕ → List ℕ) (l₀ : Lent) : Type 0 where
  takes : (b : Book) → book bs ≡ taken b → Takes head part l₀ (records_in head) → BookOutcome bs head part l₀
  refuses : (why : Located) → book bs ≡ refused why → Meets head part l₀ why → BookOutcome bs head part l₀
