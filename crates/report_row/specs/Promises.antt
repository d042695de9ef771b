-- What the two calls promise, completely: the reply, and every byte of the lent text, on refusals too (02, R-11).
use Rattle.rules.specs.declared.Refusal.{Refusal}
use Rattle.std.specs.Prelude.{◌≡◌, List, ℕ, length, Result, Ok, Err}
use Rattle.rules.specs.declared.ReportRow.{ReportRow}
use Rattle.rules.specs.Refusals.{Reply, taken, refused}
use Rattle.rules.specs.ReportRow.{row_written, text_after}
use Rattle.rules.specs.ReportRead.{row_read}

abbrev pub written_answer : Reply (List ℕ) → Result ℕ Refusal
written_answer (taken row) = Ok (length row)
written_answer (refused x) = Err x

pub record WritePromise (row : ReportRow) (old : List ℕ) (answer : Result ℕ Refusal) (new : List ℕ) : Type 0 where
  pub reply : answer ≡ written_answer (row_written row (length old))
  pub text : new ≡ text_after (row_written row (length old)) old

abbrev pub read_answer : Reply ReportRow → Result ReportRow Refusal
read_answer (taken row) = Ok row
read_answer (refused x) = Err x

pub record ReadPromise (bytes : List ℕ) (answer : Result ReportRow Refusal) : Type 0 where
  pub reply : answer ≡ read_answer (row_read bytes)
