-- A STORED TALLY OVER ANOTHER BOOK'S LISTS, over words: where the calls below tell the lists apart (crates/chain, Mixed), every C call that reads what was kept
-- returns 11.
use Rattle.std.specs.Prelude.{Result}
use Rattle.answer.specs.declared.Answer.{Answer}
use Rattle.rules.specs.declared.Refusal.{Refusal}
use mathlib.Core.Path.{◌≡◌, refl, ◌∙◌, ap, subst}
use mathlib.Core.Bool.{Bool, true, false, ◌&&◌}
use mathlib.Core.List.{List}
use mathlib.Core.Logic.{◌⊎◌, inl, inr}
use Prim.Native.Nat.{ℕ, ◌+◌, ◌≤◌, ◌<◌}
use lib.Dec.{leb, ltb}
use lib.ListN.{length}
use borrow.Author.Tests.{le-leb}
use Rattle.rules.specs.declared.Direction.{Direction}
use Rattle.rules.specs.declared.Refusal.TheVariants.{WrongState, TooShort}
use Rattle.rules.specs.Refusals.{Reply, taken, refused, unless, number}
use Rattle.rules.specs.Book.{Requirement}
use Rattle.rules.specs.RequirementRecord.{set_fine}
use Rattle.interval.specs.declared.Tally.{Tally}
use Rattle.interval.specs.declared.Step.{Step}
use Rattle.interval.specs.Tally.{in_range, answer_turn, units_taken}
use Rattle.interval.specs.Lent.{Lent, regions_long, rows_long}
use Rattle.interval.specs.Calls.{left, unit_long}
use Rattle.interval.specs.Promises.{UnitPromise}
use Rattle.interval.specs.Run.{Ran, in_run, records_in, whole}
use Rattle.interval.proofs.RunLaws.{first_refused}
use Rattle.kept.specs.KeptReport.{report_long, report_reply}
use Rattle.kept.specs.Kept.{kept_answer}
use Rattle.chain.specs.Mixed.{Told}
use Rattle.chain.proofs.Mixed.{told_unit}
use Rattle.answer.specs.declared.Row.{Row}
use Rattle.answer.specs.Promises.{Columns, AnswerPromise, answer_reply, columns_long, replied, with_lines}
use Rattle.answer.specs.Roster.{MemberPromise, member_long, member_reply, row_answer}
use Rattle.dullavane.specs.Words.{held, said, told, words_after}
use Rattle.dullavane.specs.Called.{Called}
use Rattle.dullavane.specs.Promises.{UnitCalled}
use Rattle.dullavane.specs.Runs.{UnitsCalled}
use Rattle.dullavane.specs.Answers.{AnswerCalled, answered_after, answered_number, reply_words}
use Rattle.dullavane.specs.Reports.{book_row, report_answer, ReportCalled}
use Rattle.dullavane.specs.Asked.{MemberCalled, asked_narrow, asked_tally, direction_of, in_turn, member_words, row_after, row_number}
use Rattle.demands.proofs.WordsLaws.{is_stepped}
use Rattle.demands.proofs.WordsRuns.{as_it_came, run_steps}
use Rattle.demands.specs.OtherBook.{ToldApart}

-- ---- a call returns 11 where its words do, and where the call below does
module _ {S : Type 0} (says : S → ℕ) (after : S → List ℕ → List ℕ) (Call : Tally → S → Type 0) (Kept : Type 0) where
  eleven :
      (Same : Type 0) {t : Tally} {y : Reply Tally} {ws ws' : List ℕ} {r : ℕ} → (y ≡ refused WrongState) ⊎ (y ≡ taken t) →
      ((s : S) → Call t s → (says s ≡ number WrongState) × (after s ws ≡ ws) × Same) → (Kept → Same) → Called says after Call Kept y ws r ws' →
      (r ≡ number WrongState) × (ws' ≡ ws) × Same
  unfolding Called
  eleven Same {ws = ws} {ws' = ws'} {r = r} (inl e) by_call by_keeping c =
      let x = subst (λ (z : Reply Tally). Called says after Call Kept z ws r ws') e c in
      (x.reply, x.words, by_keeping x.kept)
  eleven Same (inr e) by_call by_keeping c =
      let x = is_stepped says after Call Kept e c in
      let same = by_call x.step x.call in
      (x.reply ∙ same.0, x.words ∙ same.1, same.2)

-- words for the answer that are long enough are not what is refused
asked_either :
    (ws : List ℕ) (narrow long : Bool) {t : Tally} → held ws ≡ taken t → long ≡ true →
    (asked_tally ws narrow long ≡ refused WrongState) ⊎ (asked_tally ws narrow long ≡ taken t)
unfolding asked_tally in_turn
asked_either ws narrow long {t} h l = rw (h, l) (go (in_range t && answer_turn t) narrow)
  where
    go :
        (turn narrow : Bool) → let y = unless turn WrongState (unless narrow WrongState (unless true TooShort (taken t))) in
        (y ≡ refused WrongState) ⊎ (y ≡ taken t)
    go true true = inr refl
    go true false = inl refl
    go false narrow = inl refl

refused_anyway : {A : Type 0} (turn : Bool) → ◌≡◌ {A = Reply A} (unless turn WrongState (refused WrongState)) (refused WrongState)
refused_anyway true = refl
refused_anyway false = refl

-- ---- what the calls below answer: before the figures are looked at they refuse with 11 alone, where lists are long enough
module _ (t : Tally) (l : Lent) (apart : Told t l) where
  answer_refused :
      (p : List ℕ) (old : Columns) → ((regions_long l && rows_long t.units l) && columns_long t.units old) ≡ true →
      answer_reply t p l old ≡ refused WrongState
  unfolding answer_reply
  answer_refused p old long = rw (long, apart.answer) (refused_anyway (in_range t && answer_turn t))

  member_refused : (row : ℕ) (d : Direction) (set : ℕ) → member_long t.units l ≡ true → member_reply t row d set l ≡ refused WrongState
  unfolding member_reply
  member_refused row d set long =
      rw (long, apart.figures, refused_anyway {A = Row} (set_fine set && ltb row t.units)) (refused_anyway (in_range t && answer_turn t))

  report_refused : (row version : ℕ) → report_long t.units l ≡ true → report_reply t row version l ≡ refused WrongState
  unfolding report_reply
  report_refused row version long = rw (long, apart.figures) (refused_anyway (in_range t && answer_turn t))

-- ---- THE THEOREM
module _ (stored : List ℕ) (t : Tally) (l : Lent) (h : held stored ≡ taken t) (apart : Told t l) where
  pub told_apart : ToldApart stored t l
  unfolding book_row report_answer
  told_apart = record { unit = unit; units = units; answer = answer; member = member; report = report }
    where
      unit :
          {p stored' : List ℕ} {r : ℕ} {l' : Lent} → unit_long (units_taken t + 1) l ≡ true → UnitCalled stored p l r stored' l' →
          (r ≡ number WrongState) × (stored' ≡ stored) × (l' ≡ l)
      unit {p} {l' = l'} long c = eleven told words_after _ _ (l' ≡ l) (inr h) refuses (λ same. same) c.answer
        where
          refuses : (s : Step) → UnitPromise t p l s l' → (told s ≡ number WrongState) × (words_after s stored ≡ stored) × (l' ≡ l)
          refuses s w = let e = told_unit apart long w in (ap told e.0, ap (λ (x : Step). words_after x stored) e.0, e.1)

      units :
          {run stored' : List ℕ} {r : ℕ} {l' : Lent} → unit_long (units_taken t + 1) l ≡ true → whole run ≡ true → 0 < records_in run →
          UnitsCalled stored run l r stored' l' → (r ≡ said (in_run 1 WrongState)) × (stored' ≡ stored) × (l' ≡ l)
      units {run} long is_whole some c =
          let s = run_steps h c in
          let Stops-first = first_refused t run l is_whole some (apart.unit run long) in
          let step = s.promise.reply ∙ ap (λ (x : Ran). x.step) Stops-first in
          (s.reply ∙ ap told step, as_it_came t h s (ap (λ (x : Step). x.tally) step), s.promise.lent ∙ ap (λ (x : Ran). x.lent) Stops-first)

      answer :
          {p reply reply' : List ℕ} {old new : Columns} {r : ℕ} → ((regions_long l && rows_long t.units l) && columns_long t.units old) ≡ true →
          reply_words ≤ length reply → AnswerCalled stored p l old reply r new reply' → (r ≡ number WrongState) × (reply' ≡ reply) × (new ≡ old)
      answer {p} {reply} {old = old} {new = new} long words_long c =
          eleven answered_number answered_after _ _ (new ≡ old) (asked_either stored true (leb reply_words (length reply)) h (le-leb _ _ words_long)) refuses
          (λ same. same) c.answer
        where
          refuses : (a : Result Answer Refusal) → AnswerPromise t p l old a new → (answered_number a ≡ number WrongState) × (answered_after a reply ≡ reply) × (new ≡ old)
          refuses a w =
              let no = answer_refused t l apart p old long in
              let e = w.reply ∙ ap (replied t l) no in (
                ap answered_number e,
                ap (λ (x : Result Answer Refusal). answered_after x reply) e,
                w.written ∙ ap (λ (y : Reply Requirement). left (λ q. with_lines (kept_answer t l q)) y old) no,
              )

      member :
          {row direction set : ℕ} {us us' : List ℕ} {r : ℕ} → member_long t.units l ≡ true → member_words ≤ length us →
          MemberCalled stored row direction set l us r us' → (r ≡ number WrongState) × (us' ≡ us)
      member {row} {direction} {set} {us} long words_long c =
          let either = asked_either stored (asked_narrow row direction set) (leb member_words (length us)) h (le-leb _ _ words_long) in
          let x = eleven row_number row_after _ _ (Unit {0}) either refuses (λ same. same) c.answer in
          (x.0, x.1)
        where
          refuses :
              (s : Row) → MemberPromise t row (direction_of direction) set l s → (row_number s ≡ number WrongState) × (row_after s us ≡ us) × (Unit {0})
          refuses s w =
              let e = w.reply ∙ ap row_answer (member_refused t l apart row (direction_of direction) set long) in
              (ap row_number e, ap (λ (x : Row). row_after x us) e, tt)

      report :
          {row version : ℕ} {old new : List ℕ} {r : ℕ} → report_long t.units l ≡ true → ReportCalled stored row version l old r new →
          (r ≡ number WrongState) × (new ≡ old)
      report {row} {version} long c =
          let e = go (asked_either stored (ltb version 65_536) true h refl) in
          (rw e at c.reply, rw e at c.text)
        where
          go :
              (asked_tally stored (ltb version 65_536) true ≡ refused WrongState) ⊎ (asked_tally stored (ltb version 65_536) true ≡ taken t) →
              book_row stored row version l ≡ refused WrongState
          go (inl e) = rw e
          go (inr e) = rw e (report_refused t l apart row version long)
