-- R-11, THE PERFORMANCE REPORT, over C. Of a book that was taken `dullavane_report` gives the rules' report, row by row, and the rows joined are the text that
-- the rules say of the book. What `dullavane_report_row` writes, `dullavane_report_read` reads back, performances as their billionths; what it reads is one that
-- is written of some signed 64-bit performances; and it refuses, with 18 and the first wrong column, exactly the rows that are written of none.
use mathlib.Core.Path.{◌≡◌, refl, sym, ◌∙◌, ap, ap₂}
use mathlib.Core.Bool.{true, ◌&&◌}
use mathlib.Core.List.{List, [], ◌∷◌, ◌++◌, map, append-nil, append_assoc}
use Prim.Native.Nat.{ℕ, zero, suc, ◌+◌, ◌*◌, ◌/◌, ◌≤◌, ◌<◌}
use native.Mathlib.Omega.{arith}
use lib.Dec.{ltb}
use lib.IntN.{ℤ}
use lib.ListN.{length, get_or, take, drop}
use lib.Seq.{take_at, take-length}
use borrow.Author.Tests.{le-leb, lt-ltb}
use Rattle.rules.specs.declared.Refusal.{Refusal}
use Rattle.rules.specs.declared.ReportRow.{ReportRow}
use Rattle.rules.specs.Quantities.{regions}
use Rattle.rules.specs.Bytes.{listed}
use Rattle.rules.specs.Refusals.{Reply, taken, refused, located}
use Rattle.rules.specs.Book.{Book}
use Rattle.rules.specs.WholeBook.{book}
use Rattle.rules.specs.Plants.{Plant, plants}
use Rattle.rules.specs.Listing.{joined}
use Rattle.rules.specs.Calendar.{last_interval}
use Rattle.rules.specs.Report.{member_row, residual_row, report_rows, report_text}
use Rattle.rules.specs.ReportRow.{report_row, row_written, in_billionths}
use Rattle.rules.specs.ReportRead.{row_read}
use Rattle.interval.specs.declared.Tally.{Tally}
use Rattle.interval.specs.Tally.{units_end, in_range, answer_turn, before_units}
use Rattle.interval.specs.Lent.{Lent}
use Rattle.chain.specs.Taken.{counts_in}
use Rattle.chain.specs.BookWay.{Hands}
use Rattle.chain.specs.Answerable.{Answerable}
use Rattle.chain.specs.Reports.{row_at}
use Rattle.chain.proofs.ReportIs.{report_is, row_there, row_past}
use Rattle.chain.proofs.Answerable.{units_answerable}
use Rattle.report_row.proofs.ReadLaws.{ends}
use Rattle.report_row.proofs.RowLaws.{RowSigned, read_after_report, every_read_is_made, refused_never_made, refused_is_first}
use Rattle.dullavane.specs.Words.{held, said}
use Rattle.dullavane.specs.Asked.{asked_tally, in_turn}
use Rattle.dullavane.specs.Reports.{row_reply, book_row, report_answer, with_numbers, read_reply, RowCalled, ReportCalled, ReadCalled}
use Rattle.demands.specs.WordsChain.{WordsChain}
use Rattle.demands.proofs.WordsTheorem.{words_chain}
use Rattle.demands.specs.PerformanceReport.{RowGiven, WordsReport, RowsWalked, held_row, rows_held, RowOutcome, read, refused_row}

-- ---- A BOOK'S REPORT
-- the words hold a tally that can be asked, with a version of 16 bits
asked_held : (ws : List ℕ) {t : Tally} (version : ℕ) → held ws ≡ taken t → (in_range t && answer_turn t) ≡ true → version < 65_536 →
    asked_tally ws (ltb version 65_536) true ≡ taken t
unfolding asked_tally in_turn
asked_held ws version h turn few = rw (h, turn, lt-ltb version 65_536 few)

module _ {b : Book} {t : Tally} (ws : List ℕ) {l : Lent} (a : Answerable b t l) (h : held ws ≡ taken t) where
  -- where the words hold the tally, the row is that of the calls below, which is the rules'
  row_is : (row version : ℕ) → version < 65_536 → book_row ws row version l ≡ row_at (report_rows b version) row
  unfolding book_row
  row_is row version few =
      let turn : (in_range t && answer_turn t) ≡ true = rw (a.tally, le-leb (units_end t) t.records a.turn) in
      rw (asked_held ws version h turn few) (report_is a row version)

  pub answerable_reported : WordsReport b ws l
  unfolding report_answer
  answerable_reported = record { there = there; past = past }
    where
      there :
          (row version : ℕ) (z : ReportRow) → version < 65_536 → row < length (report_rows b version) → {old new : List ℕ} {r : ℕ} →
          ReportCalled ws row version l old r new → RowGiven (get_or (report_rows b version) row z) old r new
      there row version z few inside c =
          let e = row_is row version few ∙ row_there (report_rows b version) row z inside in
          record { reply = rw e at c.reply; text = rw e at c.text }

      past :
          (row version : ℕ) → version < 65_536 → length (report_rows b version) ≤ row → {old new : List ℕ} {r : ℕ} →
          ReportCalled ws row version l old r new → (r ≡ 11) × (new ≡ old)
      past row version few outside c =
          let e = row_is row version few ∙ row_past (report_rows b version) row outside in
          (rw e at c.reply, rw e at c.text)

-- ON EVERY CHAIN OF C CALLS over a book that the format takes, from its last unit on, whatever was refused in between
pub book_report :
    {bs head : List ℕ} {part : ℕ → List ℕ} {l₀ : Lent} {ws₀ : List ℕ} → Hands bs head part → (b : Book) → book bs ≡ taken b →
    ((i : ℕ) → get_or bs i 0 < 256) → {n : ℕ} {ws : List ℕ} {l : Lent} → WordsChain head part l₀ ws₀ n ws l →
    before_units + (counts_in head).units ≤ n → WordsReport b ws l
book_report hands b e bytes {ws = ws} d all =
    let x = words_chain d in
    answerable_reported ws (units_answerable hands b e x.chain all bytes) x.held

-- ---- THE ROWS JOINED are the text that the rules say of the book
-- all rows are of the book's interval
module _ (b : Book) (version : ℕ) where
  abbrev Dated : List ReportRow → Type 0
  Dated rows = (j : ℕ) (z : ReportRow) → j < length rows → (get_or rows j z).interval ≡ b.settings.interval

  residuals_dated : (n i : ℕ) → Dated (listed i n (residual_row b version))
  unfolding listed residual_row
  residuals_dated zero i j z h = absurd (omega arith)
  residuals_dated (suc n) i zero z h = refl
  residuals_dated (suc n) i (suc j) z h = residuals_dated n (suc i) j z (omega arith)

  members_dated : (ps : List Plant) (rest : List ReportRow) → Dated rest → Dated (map (member_row b version) ps ++ rest)
  unfolding member_row
  members_dated [] rest d j z h = d j z h
  members_dated (p ∷ ps) rest d zero z h = refl
  members_dated (p ∷ ps) rest d (suc j) z h = members_dated ps rest d j z (omega arith)

  rows_dated : Dated (report_rows b version)
  unfolding report_rows
  rows_dated = members_dated (plants b.roster) (listed 0 regions (residual_row b version)) (residuals_dated regions 0)

-- one row more
joined_more : (xs : List ReportRow) (n : ℕ) (z : ReportRow) → n < length xs →
    joined report_row (take (suc n) xs) ≡ joined report_row (take n xs) ++ report_row (get_or xs n z)
unfolding joined
joined_more [] n z h = absurd (omega arith)
joined_more (x ∷ xs) zero z h = append-nil (report_row x)
joined_more (x ∷ xs) (suc n) z h =
    ap (λ (l : List ℕ). report_row x ++ l) (joined_more xs n z (omega arith))
    ∙ sym (append_assoc (report_row x) (joined report_row (take n xs)) (report_row (get_or xs n z)))

module _ {b : Book} {version : ℕ} {ws : List ℕ} {l : Lent} {text : ℕ → List ℕ} {reply : ℕ → ℕ} (w : WordsReport b ws l) (few : version < 65_536)
    (early : b.settings.interval ≤ last_interval) (walk : RowsWalked b version ws l text reply) where
  -- the text holds its row
  row_held : (j : ℕ) (z : ReportRow) → j < length (report_rows b version) → held_row (reply j) (text j) ≡ report_row (get_or (report_rows b version) j z)
  unfolding row_written
  row_held j z h =
      let row = get_or (report_rows b version) j z in
      let given = w.there j version z few h (walk.called j h) in
      let dated : row.interval ≤ last_interval = omega (arith, rows_dated b version j z h, early) in
      let there : row_written row (length (walk.lent j)) ≡ taken (report_row row) =
      rw (le-leb row.interval last_interval dated, le-leb (length (report_row row)) (length (walk.lent j)) (walk.room j z h)) in
      let told : reply j ≡ length (report_row row) * 0x1_0000_0000 = rw there at given.reply in
      let many : reply j / 0x1_0000_0000 ≡ length (report_row row) = omega (arith, told) in
      let left : text j ≡ report_row row ++ drop (length (report_row row)) (walk.lent j) = rw there at given.text in
      rw (many, left) (take_at (report_row row) (drop (length (report_row row)) (walk.lent j)) (length (report_row row)) refl)

  held_to : (z : ReportRow) (n : ℕ) → n ≤ length (report_rows b version) → rows_held n text reply ≡ joined report_row (take n (report_rows b version))
  unfolding rows_held joined
  held_to z zero h = refl
  held_to z (suc n) h =
      ap₂ (λ (xs ys : List ℕ). xs ++ ys) (held_to z n (omega arith)) (row_held n z (omega arith))
      ∙ sym (joined_more (report_rows b version) n z (omega arith))

  pub rows_joined : rows_held (length (report_rows b version)) text reply ≡ report_text version b
  unfolding report_text
  rows_joined =
      held_to (residual_row b version 0) (length (report_rows b version)) (omega arith)
      ∙ ap (joined report_row) (take-length (report_rows b version))
      ∙ rw (le-leb b.settings.interval last_interval early)

-- ---- READING BACK
row_in : ReportRow → Reply ReportRow → ReportRow
row_in z (taken row) = row
row_in z (refused x) = z

taken_once : (x y : ReportRow) (m : Reply ReportRow) → m ≡ taken x → m ≡ taken y → x ≡ y
unfolding row_in
taken_once x y m e f = ap (row_in x) (sym e ∙ f)

-- what is written, behind the reply 0 of its refusal, is read as its billionths
pub written_read_back :
    (row : ReportRow) → RowSigned row → {old new : List ℕ} {r : ℕ} → length (report_row row) ≤ length old → RowCalled true row old r new →
    {xs xs' : List ℤ} {s : ℕ} → 8 ≤ length xs → ReadCalled (held_row r new) xs s xs' → (s ≡ 0) × (xs' ≡ with_numbers (in_billionths row) xs)
unfolding row_reply row_written read_reply
written_read_back row signed {old} {new} {r} room c {xs} long d =
    let there : row_written row (length old) ≡ taken (report_row row) =
    rw (le-leb row.interval last_interval signed.interval, le-leb (length (report_row row)) (length old) room) in
    let told : r ≡ length (report_row row) * 0x1_0000_0000 = rw there at c.reply in
    let many : r / 0x1_0000_0000 ≡ length (report_row row) = omega (arith, told) in
    let left : new ≡ report_row row ++ drop (length (report_row row)) old = rw there at c.text in
    let bytes : held_row r new ≡ report_row row =
    rw (many, left) (take_at (report_row row) (drop (length (report_row row)) old) (length (report_row row)) refl) in
    let read : read_reply (held_row r new) (length xs) ≡ taken (in_billionths row) = rw (bytes, le-leb 8 (length xs) long) (read_after_report ends row signed) in
    (rw read at d.reply, rw read at d.numbers)

-- whatever is read, or refused
module _ {bytes : List ℕ} {xs xs' : List ℤ} {s : ℕ} (long : 8 ≤ length xs) (c : ReadCalled bytes xs s xs') where
  pub every_row : RowOutcome bytes xs s xs'
  unfolding read_reply
  every_row = go (row_read bytes) refl
    where
      go : (m : Reply ReportRow) → row_read bytes ≡ m → RowOutcome bytes xs s xs'
      go (taken row) e =
          let told : read_reply bytes (length xs) ≡ taken row = rw (le-leb 8 (length xs) long) e in
          let made = every_read_is_made ends bytes row e in
          let back = taken_once row (in_billionths made.row) (row_read bytes) e (rw made.is at (read_after_report ends made.row made.signed)) in
          read (rw told at c.reply)
          (record { row = made.row; signed = made.signed; text = made.is; numbers = rw told at c.numbers ∙ ap (λ (r : ReportRow). with_numbers r xs) back })
      go (refused x) e =
          let told : read_reply bytes (length xs) ≡ refused x = rw (le-leb 8 (length xs) long) e in
          let first = refused_is_first ends bytes x e in
          refused_row (record {
            column = first.wrong;
            from_one = first.from_one;
            to_seven = first.to_seven;
            told = rw told at c.reply ∙ ap (λ (y : Refusal). said (located 0 y)) first.is;
            kept = rw told at c.numbers;
            never = λ row signed is. refused_never_made ends bytes x e row signed is;
          })
