-- The answer to a requirement, over words: its figures in eight of them, its members' numbers in the columns.
use Rattle.rules.specs.declared.Refusal.{Refusal}
use Rattle.std.specs.Prelude.{◌≡◌, true, List, [], ◌∷◌, ◌++◌, ℕ, leb, length, drop, Result, Ok, Err}
use Rattle.rules.specs.Refusals.{number}
use Rattle.interval.specs.Lent.{Lent}
use Rattle.answer.specs.declared.Answer.{Answer}
use Rattle.answer.specs.Promises.{Columns, AnswerPromise}
use Rattle.dullavane.specs.Called.{Called}
use Rattle.dullavane.specs.Asked.{asked_tally, standing_number}

-- how many members there are, RCR, the pools, what is unplaced of used and of unused, the residual's standing
abbrev pub reply_words : ℕ
reply_words = 8

abbrev pub figures_of : Answer → List ℕ
figures_of a =
    a.members ∷ a.rcr ∷ a.pool ∷ a.used.pool ∷ a.unused.pool ∷ a.used.unplaced ∷ a.unused.unplaced ∷ standing_number a.residual ∷ []

abbrev pub with_answer : Answer → List ℕ → List ℕ
with_answer a ws = figures_of a ++ drop reply_words ws

abbrev pub answered_number : Result Answer Refusal → ℕ
answered_number (Ok a) = 0
answered_number (Err r) = number r

abbrev pub answered_after : Result Answer Refusal → List ℕ → List ℕ
answered_after (Ok a) ws = with_answer a ws
answered_after (Err r) ws = ws

pub record AnswerCalled (ts part : List ℕ) (l : Lent) (old : Columns) (ws : List ℕ) (r : ℕ) (new : Columns) (ws' : List ℕ) : Type 0 where
  pub answer :
      Called answered_number answered_after (λ t a. AnswerPromise t part l old a new) (new ≡ old)
      (asked_tally ts true (leb reply_words (length ws))) ws r ws'
