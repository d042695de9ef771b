-- What proofs/PerformanceReport.antt speaks of: what a caller from C has after the calls for the performance report (02, R-11).
use Rattle.std.specs.Prelude.{◌≡◌, List, [], ◌++◌, ℕ, zero, suc, ◌/◌, ◌≤◌, ◌<◌, ℤ, length, get_or, take}
use Rattle.rules.specs.declared.Refusal.TheVariants.{WrongRow}
use Rattle.rules.specs.declared.ReportRow.{ReportRow}
use Rattle.rules.specs.Refusals.{located}
use Rattle.rules.specs.Book.{Book}
use Rattle.rules.specs.Report.{report_rows}
use Rattle.rules.specs.ReportRow.{report_row, row_written, text_after, in_billionths}
use Rattle.interval.specs.Lent.{Lent}
use Rattle.report_row.proofs.RowLaws.{RowSigned}
use Rattle.dullavane.specs.Words.{said}
use Rattle.dullavane.specs.Reports.{written_told, with_numbers, ReportCalled}

-- ---- a row in a text: the reply, and every byte, also where the text is too short or the year past 9999
pub record RowGiven (row : ReportRow) (old : List ℕ) (r : ℕ) (new : List ℕ) : Type 0 where
  pub reply : r ≡ written_told (row_written row (length old))
  pub text : new ≡ text_after (row_written row (length old)) old

-- what `dullavane_report` gives of a book, once all units are in: each row of its report by its number from 0, z standing where it has none; past the last 11
pub record WordsReport (b : Book) (ws : List ℕ) (l : Lent) : Type 0 where
  pub there :
      (row version : ℕ) (z : ReportRow) → version < 65_536 → row < length (report_rows b version) → {old new : List ℕ} {r : ℕ} →
      ReportCalled ws row version l old r new → RowGiven (get_or (report_rows b version) row z) old r new
  pub past :
      (row version : ℕ) → version < 65_536 → length (report_rows b version) ≤ row → {old new : List ℕ} {r : ℕ} →
      ReportCalled ws row version l old r new → (r ≡ 11) × (new ≡ old)

-- ---- a walk over the rows: a call for each, with a text that has room for its row, which leaves the text and the reply
pub record RowsWalked (b : Book) (version : ℕ) (ws : List ℕ) (l : Lent) (text : ℕ → List ℕ) (reply : ℕ → ℕ) : Type 0 where
  pub lent : ℕ → List ℕ
  pub room : (j : ℕ) (z : ReportRow) → j < length (report_rows b version) → length (report_row (get_or (report_rows b version) j z)) ≤ length (lent j)
  pub called : (j : ℕ) → j < length (report_rows b version) → ReportCalled ws j version l (lent j) (reply j) (text j)

-- the row that a text holds: as many bytes as the reply tells in its upper half (DULLAVANE_LENGTH)
abbrev pub held_row : ℕ → List ℕ → List ℕ
held_row reply text = take (reply / 0x1_0000_0000) text

-- the first n of them, one behind the other
unfoldable pub rows_held : ℕ → (ℕ → List ℕ) → (ℕ → ℕ) → List ℕ
rows_held zero text reply = []
rows_held (suc n) text reply = rows_held n text reply ++ held_row (reply n) (text n)

-- ---- what `dullavane_report_read` replies and leaves, lent eight numbers at least
module _ (bytes : List ℕ) (old : List ℤ) where
  -- the row is one that is written of some signed 64-bit performances, and the numbers are its own, performances as their billionths
  pub record WrittenOf (new : List ℤ) : Type 0 where
    pub row : ReportRow
    pub signed : RowSigned row
    pub text : report_row row ≡ bytes
    pub numbers : new ≡ with_numbers (in_billionths row) old

  -- it is written of none: 18 with its first wrong column as t, place 0; the numbers are as they were
  pub record RowRefused (r : ℕ) (new : List ℤ) : Type 0 where
    pub column : ℕ
    pub from_one : 1 ≤ column
    pub to_seven : column ≤ 7
    pub told : r ≡ said (located 0 (WrongRow column))
    pub kept : new ≡ old
    pub never : (row : ReportRow) → RowSigned row → report_row row ≡ bytes → ⊥

  pub data RowOutcome (r : ℕ) (new : List ℤ) : Type 0 where
    read : r ≡ 0 → WrittenOf new → RowOutcome r new
    refused_row : RowRefused r new → RowOutcome r new
