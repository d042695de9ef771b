-- Laws of the definitions in specs/Promises.antt.
use Rattle.std.specs.Prelude.{Result}
use Rattle.answer.specs.declared.Answer.{Answer}
use Rattle.rules.specs.declared.Refusal.{Refusal}
use mathlib.Core.Path.{◌≡◌, sym, ◌∙◌}
use mathlib.Core.Bool.{Bool}
use mathlib.Core.List.{List}
use Prim.Native.Nat.{ℕ}
use Rattle.interval.specs.declared.Tally.{Tally}
use Rattle.interval.specs.Lent.{Lent}
use Rattle.answer.specs.Promises.{AnswerPromise, Columns, columns_long}

-- ---- the promise leaves one reply, and one content of the columns
pub answer_only :
    (t : Tally) (part : List ℕ) (l : Lent) (old : Columns) {r r' : Result Answer Refusal} {new new' : Columns} → AnswerPromise t part l old r new →
    AnswerPromise t part l old r' new' → (r ≡ r') × (new ≡ new')
answer_only t part l old a b = (a.reply ∙ sym b.reply, a.written ∙ sym b.written)

-- long columns likewise
pub columns_long_only : (units : ℕ) (c : Columns) {r r' : Bool} → r ≡ columns_long units c → r' ≡ columns_long units c → r ≡ r'
columns_long_only units c a b = a ∙ sym b
