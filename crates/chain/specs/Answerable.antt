-- What an answer, and a row of the report, ask of tally and lent lists, and the rules' answer and report from them.
use Rattle.std.specs.Prelude.{◌≡◌, true, ℕ, ◌≤◌}
use Rattle.rules.specs.Refusals.{taken, ◌>>=◌}
use Rattle.rules.specs.Book.{Requirement, Book}
use Rattle.rules.specs.Answer.{answer}
use Rattle.rules.specs.Report.{report_rows}
use Rattle.interval.specs.declared.Tally.{Tally}
use Rattle.interval.specs.Tally.{units_end, in_range}
use Rattle.interval.specs.Lent.{Lent}
use Rattle.kept.specs.Kept.{kept_answer}
use Rattle.kept.specs.Range.{kept_fine}
use Rattle.kept.specs.KeptReport.{place_of, place_row}
use Rattle.chain.specs.Long.{Long}
use Rattle.chain.specs.Reports.{row_at}

pub record Answerable (b : Book) (t : Tally) (l : Lent) : Type 0 where
  pub tally : in_range t ≡ true
  pub turn : units_end t ≤ t.records
  pub long : Long l t.units
  pub lent : kept_fine t l ≡ true
  -- its set names five regions at most, as the format asks
  pub answers : (q : Requirement) → q.set ≤ 31 → kept_answer t l q ≡ answer b q
  -- what is kept gives the rows of its report, and none past the last
  pub reports : (row version : ℕ) → (place_of t l row >>= (λ p. taken (place_row t l version p))) ≡ row_at (report_rows b version) row
