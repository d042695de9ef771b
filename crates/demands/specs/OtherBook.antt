-- What proofs/OtherBook.antt speaks of: the words of a stored tally t over lists l that another book has begun to fill. Where words, lists and columns are long
-- enough, every C call that reads what was kept returns 11 (01, Numbers the box can say no with), and leaves all of them as they came.
use Rattle.std.specs.Prelude.{◌≡◌, true, ◌&&◌, List, ℕ, ◌+◌, ◌≤◌, ◌<◌, length}
use Rattle.rules.specs.declared.Refusal.TheVariants.{WrongState}
use Rattle.rules.specs.Refusals.{number}
use Rattle.interval.specs.declared.Tally.{Tally}
use Rattle.interval.specs.Tally.{units_taken}
use Rattle.interval.specs.Lent.{Lent, regions_long, rows_long}
use Rattle.interval.specs.Calls.{unit_long}
use Rattle.interval.specs.Run.{in_run, records_in, whole}
use Rattle.kept.specs.KeptReport.{report_long}
use Rattle.answer.specs.Promises.{Columns, columns_long}
use Rattle.answer.specs.Roster.{member_long}
use Rattle.dullavane.specs.Words.{said}
use Rattle.dullavane.specs.Promises.{UnitCalled}
use Rattle.dullavane.specs.Runs.{UnitsCalled}
use Rattle.dullavane.specs.Answers.{reply_words, AnswerCalled}
use Rattle.dullavane.specs.Asked.{member_words, MemberCalled}
use Rattle.dullavane.specs.Reports.{ReportCalled}

pub record ToldApart (stored : List ℕ) (t : Tally) (l : Lent) : Type 0 where
  pub unit :
      {p stored' : List ℕ} {r : ℕ} {l' : Lent} → unit_long (units_taken t + 1) l ≡ true → UnitCalled stored p l r stored' l' →
      (r ≡ number WrongState) × (stored' ≡ stored) × (l' ≡ l)
  pub units :
      {run stored' : List ℕ} {r : ℕ} {l' : Lent} → unit_long (units_taken t + 1) l ≡ true → whole run ≡ true → 0 < records_in run →
      UnitsCalled stored run l r stored' l' → (r ≡ said (in_run 1 WrongState)) × (stored' ≡ stored) × (l' ≡ l)
  pub answer :
      {p reply reply' : List ℕ} {old new : Columns} {r : ℕ} → ((regions_long l && rows_long t.units l) && columns_long t.units old) ≡ true →
      reply_words ≤ length reply → AnswerCalled stored p l old reply r new reply' → (r ≡ number WrongState) × (reply' ≡ reply) × (new ≡ old)
  pub member :
      {row direction set : ℕ} {us us' : List ℕ} {r : ℕ} → member_long t.units l ≡ true → member_words ≤ length us →
      MemberCalled stored row direction set l us r us' → (r ≡ number WrongState) × (us' ≡ us)
  pub report :
      {row version : ℕ} {old new : List ℕ} {r : ℕ} → report_long t.units l ≡ true → ReportCalled stored row version l old r new →
      (r ≡ number WrongState) × (new ≡ old)
