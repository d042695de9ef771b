-- Laws of the definitions in specs/Answers.antt.
use mathlib.Core.Path.{◌≡◌, sym, ◌∙◌}
use mathlib.Core.List.{List}
use Prim.Native.Nat.{ℕ}
use Rattle.interval.specs.Lent.{Lent}
use Rattle.answer.specs.Promises.{Columns}
use Rattle.answer.proofs.Promises.{answer_only}
use Rattle.dullavane.proofs.Called.{called_only}
use Rattle.dullavane.specs.Answers.{AnswerCalled, answered_after, answered_number}

pub dullavane_answer_only : {ts part : List ℕ} {l : Lent} {old : Columns} {ws : List ℕ} {r r₂ : ℕ} {new new₂ : Columns} {ws' ws₂ : List ℕ} →
    AnswerCalled ts part l old ws r new ws' → AnswerCalled ts part l old ws r₂ new₂ ws₂ → (r ≡ r₂) × (ws' ≡ ws₂) × (new ≡ new₂)
dullavane_answer_only {old = old} {ws = ws} {new = new} {new₂ = new₂} a b =
    called_only answered_number answered_after _ _ (new ≡ old) (new₂ ≡ old) (new ≡ new₂) (λ t s s₂ x y. answer_only _ _ _ _ x y) (λ x y. x ∙ sym y)
    ws _ _ _ _ _ a.answer b.answer
