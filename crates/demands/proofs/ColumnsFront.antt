-- What an answer leaves at the front of the columns is the numbers of its lines.
use Rattle.std.specs.Prelude.{Result}
use Rattle.answer.specs.declared.Answer.{Answer}
use Rattle.rules.specs.declared.Refusal.{Refusal}
use mathlib.Core.Path.{◌≡◌, sym, ◌∙◌, ap}
use mathlib.Core.Bool.{Bool, true}
use mathlib.Core.List.{List, [], ◌∷◌, ◌++◌, map}
use Prim.Native.Nat.{ℕ, ◌+◌, ◌≤◌}
use native.Mathlib.Omega.{arith}
use lib.Dec.{ltb}
use lib.IntN.{ℤ}
use lib.ListN.{length, take, length-append, length-map}
use borrow.Author.Tests.{ltb-true}
use Rattle.integers.specs.Sums.{both}
use Rattle.rules.specs.Book.{Requirement, Book}
use Rattle.rules.specs.Answer.{Line, answer}
use Rattle.interval.specs.declared.Tally.{Tally}
use Rattle.interval.specs.Lent.{Lent}
use Rattle.answer.specs.Lists.{headed, gathered}
use Rattle.answer.proofs.Lists.{headed_take, gathered_length}
use Rattle.answer.specs.Roster.{Named}
use Rattle.answer.specs.Promises.{Columns, AnswerPromise, columns_long}
use Rattle.answer.specs.BookAnswered.{RulesAnswer, line_named}
use Rattle.demands.specs.ColumnsFront.{front, columns_of}

module _ {b : Book} {t : Tally} {l : Lent} {part : List ℕ} {q : Requirement} (a : RulesAnswer b t l part q) where
  abbrev lines : List Line
  lines = (answer b q).lines

  -- there are no more lines than units and the residual
  lines_few : length lines ≤ t.units + 1
  lines_few = few _ _ _ a.lines
    where
      few : (p : ℕ → Bool) (g : ℕ → Named) (x : Named) → map line_named lines ≡ gathered p g t.units ++ (x ∷ []) → length lines ≤ t.units + 1
      few p g x e =
          omega
          (arith, sym (length-map lines line_named) ∙ ap length e ∙ length-append (gathered p g t.units) (x ∷ []), gathered_length p g t.units)

  -- so each column has a number of each line at its front
  at_front : (field : Line → ℤ) (old : List ℤ) → ltb t.units (length old) ≡ true → take (length lines) (headed (map field lines) old) ≡ map field lines
  at_front field old long =
      ap (λ (n : ℕ). take n (headed (map field lines) old)) (sym (length-map lines field))
      ∙ headed_take (map field lines) old (omega (arith, length-map lines field, lines_few, ltb-true t.units (length old) long))

  pub lines_at_front : {old new : Columns} {r : Result Answer Refusal} → columns_long t.units old ≡ true → AnswerPromise t part l old r new →
      front (length lines) new ≡ columns_of lines
  lines_at_front {old} long c =
      let on_factors = both (ltb t.units (length old.performances)) _ long in
      let on_payments = both (ltb t.units (length old.factors)) _ on_factors.1 in
      let on_used = both (ltb t.units (length old.payments)) _ on_payments.1 in
      let on_unused = both (ltb t.units (length old.used)) _ on_used.1 in
      ap (front (length lines)) (a.answered long c).written
      ∙ rw (
        at_front (λ l. l.performance) old.performances on_factors.0,
        at_front (λ l. l.factor) old.factors on_payments.0,
        at_front (λ l. l.payment) old.payments on_used.0,
        at_front (λ l. l.used) old.used on_unused.0,
        at_front (λ l. l.unused) old.unused on_unused.1,
      )
