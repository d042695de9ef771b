-- What the writer's call answers: past the year, too short, or written.
use Rattle.std.specs.Prelude.{Ok, Err}
use mathlib.Core.Path.{◌≡◌, sym, ◌∙◌, ap}
use mathlib.Core.List.{List, ◌++◌, append-nil}
use Prim.Native.Nat.{ℕ, ◌-◌, ◌≤◌, ◌<◌}
use native.Mathlib.Omega.{arith}
use borrow.Author.Tests.{le-leb, lt-leb}
use lib.ListN.{length, take, drop}
use lib.Seq.{drop-length, take-length}
use Rattle.rules.specs.declared.ReportRow.{ReportRow}
use Rattle.rules.specs.declared.Refusal.TheVariants.{TooShort, YearPast}
use Rattle.rules.specs.Refusals.{Reply, taken, refused}
use Rattle.rules.specs.Calendar.{last_interval}
use Rattle.rules.specs.ReportRow.{report_row, row_written, text_after}
use Rattle.listing.specs.Pieces.{Put, PutWhereRoom}
use Rattle.listing.proofs.PiecesLaws.{put_there}
use Rattle.report_row.specs.Promises.{WritePromise, written_answer}

module _ (r : ReportRow) (old : List ℕ) where
  past_year : last_interval < r.interval → row_written r (length old) ≡ refused YearPast
  unfolding row_written
  past_year h = rw (lt-leb r.interval last_interval h)

  too_short : r.interval ≤ last_interval → length old < length (report_row r) → row_written r (length old) ≡ refused TooShort
  unfolding row_written
  too_short h k = rw (le-leb r.interval last_interval h, lt-leb (length (report_row r)) (length old) k)

  written : r.interval ≤ last_interval → length (report_row r) ≤ length old → row_written r (length old) ≡ taken (report_row r)
  unfolding row_written
  written h k = rw (le-leb r.interval last_interval h, le-leb (length (report_row r)) (length old) k)

  pub year_refused : last_interval < r.interval → WritePromise r old (Err YearPast) old
  year_refused h = record { reply = rw (past_year h); text = rw (past_year h) }

  pub length_refused : r.interval ≤ last_interval → length old < length (report_row r) → WritePromise r old (Err TooShort) old
  length_refused h k = record { reply = rw (too_short h k); text = rw (too_short h k) }

  -- a word that is the row, put before the end of its own length
  row_put_first : {n at : ℕ} {word new : List ℕ} → r.interval ≤ last_interval → word ≡ report_row r → n ≡ length word → n ≤ length old →
      PutWhereRoom (length word) word n old at new → WritePromise r old (Ok n) new
  row_put_first {n} {at} {word} {new} h same long room put =
      let p = put_there (record { free = omega (arith, long); inside = room }) put in
      let there : at ≡ 0 = omega (arith, p.place, long) in
      let whole : new ≡ word ++ drop n old = rw there at p.bytes in
      let done = written h (omega (arith, ap length same, long, room)) in
      record {
        reply = ap Ok (long ∙ ap length same) ∙ ap written_answer (sym done);
        text =
            whole ∙ ap (λ (k : ℕ). word ++ drop k old) long ∙ ap (λ (row : List ℕ). row ++ drop (length row) old) same
            ∙ ap (λ (m : Reply (List ℕ)). text_after m old) (sym done);
      }

  -- the row stands at the end of a line that is as long as the longest, and is put from there to the start of the text
  pub row_handed : {start at : ℕ} {line line' new : List ℕ} → r.interval ≤ last_interval → length line ≡ 106 → Put (report_row r) 106 line start line' →
      106 - start ≤ length old →
      PutWhereRoom (length (take (106 - start) (drop start line'))) (take (106 - start) (drop start line')) (106 - start) old at new →
      WritePromise r old (Ok (106 - start)) new
  row_handed {start} {at} {line} {line'} {new} h e p room put =
      let long : 106 - start ≡ length (report_row r) = omega (arith, p.place) in
      let end : drop start line' ≡ report_row r =
      p.bytes ∙ ap (λ (l : List ℕ). report_row r ++ l) (rw (sym e) (drop-length line)) ∙ append-nil (report_row r) in
      let same : take (106 - start) (drop start line') ≡ report_row r =
      ap (take (106 - start)) end ∙ ap (λ (k : ℕ). take k (report_row r)) long ∙ take-length (report_row r) in
      row_put_first h same (long ∙ sym (ap length same)) room put
