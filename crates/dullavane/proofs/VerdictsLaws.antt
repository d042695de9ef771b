-- Laws of the definitions in specs/Verdicts.antt.
use Rattle.std.specs.Prelude.{Result}
use Rattle.rules.specs.declared.Refusal.{Refusal}
use mathlib.Core.Path.{◌≡◌, refl, sym, ◌∙◌, ap}
use mathlib.Core.List.{List}
use Prim.Native.Nat.{ℕ, ◌≤◌, ◌<◌}
use lib.IntN.{ℤ}
use lib.ListN.{length}
use borrow.Author.Tests.{le-leb, lt-leb}
use Rattle.rules.specs.declared.Verdict.{Verdict}
use Rattle.rules.specs.Refusals.{Reply, taken, refused}
use Rattle.rules.specs.Sheet.{sheet_reply}
use Rattle.interval.specs.Calls.{left}
use Rattle.sheets.specs.Promises.{told_of, SheetPromise}
use Rattle.dullavane.specs.Words.{reply_number}
use Rattle.dullavane.specs.Verdicts.{SheetCalled, verdict_words, with_verdict, told_number, verdict_after}

pub dullavane_sheet_only :
    {ps fs : List ℤ} {ws : List ℕ} {r r₂ : ℕ} {ws' ws₂ : List ℕ} → SheetCalled ps fs ws r ws' → SheetCalled ps fs ws r₂ ws₂ → (r ≡ r₂) × (ws' ≡ ws₂)
dullavane_sheet_only a b = (a.reply ∙ sym b.reply, a.words ∙ sym b.words)

told_is : (y : Reply Verdict) (ws : List ℕ) → (told_number (told_of y) ≡ reply_number y) × (verdict_after (told_of y) ws ≡ left with_verdict y ws)
told_is (taken v) ws = (refl, refl)
told_is (refused r) ws = (refl, refl)

-- ---- how the promise is met
module _ (ps fs : List ℤ) (ws : List ℕ) where
  pub sheet_no_room : length ws < verdict_words → {r : ℕ} → r ≡ 12 → SheetCalled ps fs ws r ws
  sheet_no_room h e = let l = lt-leb verdict_words (length ws) h in record { reply = e ∙ rw l; words = rw l }

  pub sheet_told :
      verdict_words ≤ length ws → (t : Result Verdict Refusal) → SheetPromise ps fs t → {r : ℕ} {ws' : List ℕ} → r ≡ told_number t → ws' ≡ verdict_after t ws →
      SheetCalled ps fs ws r ws'
  sheet_told h t p e f =
      let l = le-leb verdict_words (length ws) h in
      let k = told_is (sheet_reply ps fs) ws in
      record { reply = e ∙ rw l (ap told_number p.reply ∙ k.0); words = f ∙ rw l (ap (λ (t : Result Verdict Refusal). verdict_after t ws) p.reply ∙ k.1) }
