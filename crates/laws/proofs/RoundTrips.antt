-- The two round trips of the book writer (02, R-4): what is written is read back as what was handed in, and what is read and handed in is written again.
use mathlib.Core.Path.{◌≡◌, ◌∙◌, ap}
use mathlib.Core.List.{List, []}
use Prim.Native.Nat.{ℕ, ◌≤◌, ◌<◌}
use lib.ListN.{length, get_or, drop}
use Rattle.rules.specs.Quantities.{regions}
use Rattle.rules.specs.Refusals.{taken, at}
use Rattle.rules.specs.Book.{Book}
use Rattle.rules.specs.Contents.{Counts, contents, requirement_start}
use Rattle.rules.specs.SettingsRecord.{settings}
use Rattle.rules.specs.WholeBook.{frequency_body, unit_body, requirement_body, book}
use Rattle.rules.specs.Given.{Given}
use Rattle.rules.specs.Written.{book_given, written}
use Rattle.rules.specs.Said.{Typed, said, handed}
use Rattle.laws.proofs.LimitsLaws.{took, went_on, there}
use Rattle.laws.proofs.LaidTaken.{Bytes}
use Rattle.laws.proofs.WrittenLaws.{refused_alike}
use Rattle.laws.proofs.WriterLaws.{written_taken}
use Rattle.laws.proofs.SaidLaws.{book_said}
use Rattle.laws.proofs.HandedBook.{laid_again, fit_again, counts_again, long_again}

-- WHAT IS WRITTEN IS READ BACK: a book that the writer writes is taken by the reader, and says what the values handed in say
pub written_read : (g : Given) (room : ℕ) (bs : List ℕ) → Typed g → written g room ≡ taken bs → book bs ≡ taken (said g)
written_read g room bs typed e =
    let w = written_taken g room bs e in
    let read = w.read in
    read.1 ∙ ap taken (book_said g w.fit typed read.0 (w.alike ∙ read.1))

-- a book's parts, taken where the reader takes them
module _
    (bs : List ℕ) (b : Book) (c : Counts) (byte : Bytes bs) (whole : book bs ≡ taken b) (table_read : contents bs ≡ taken c)
    (first_read : settings (drop 56 bs) ≡ taken b.settings) (rs_read : frequency_body regions 0 (drop 64 bs) ≡ taken b.regions)
    (us_read : unit_body c.units 1 0 [] (drop 1904 bs) ≡ taken b.roster)
    (qs_read : requirement_body c.requirements 1 0 (drop (requirement_start c.units) bs) ≡ taken b.requirements) where
  written_again : (room : ℕ) → length bs ≤ room → written (handed b) room ≡ taken bs
  unfolding written
  written_again room h =
      let same = laid_again bs b c byte table_read first_read rs_read us_read qs_read in
      let fine = counts_again bs b c byte table_read first_read rs_read us_read qs_read in
      let fit = fit_again bs b c byte table_read first_read rs_read us_read qs_read in
      let long = long_again bs b c byte table_read first_read rs_read us_read qs_read room h in
      let made : book_given (handed b) ≡ taken b = refused_alike (handed b) fit fine ∙ ap book same ∙ whole in
      rw (long, fine, made) (ap taken same)

-- WHAT IS READ AND HANDED IN IS WRITTEN AGAIN, byte for byte
pub read_written :
    (bs : List ℕ) (b : Book) → ((i : ℕ) → get_or bs i 0 < 256) → book bs ≡ taken b → (room : ℕ) → length bs ≤ room → written (handed b) room ≡ taken bs
unfolding book
read_written bs b byte e room h =
    let counts = went_on (at 0 (contents bs)) _ b e in
    let c = counts.0 in
    let s = went_on (at 1 (settings (drop 56 bs))) _ b counts.2 in
    let rs = went_on (frequency_body regions 0 (drop 64 bs)) _ b s.2 in
    let us = went_on (unit_body c.units 1 0 [] (drop 1904 bs)) _ b rs.2 in
    let qs = went_on (requirement_body c.requirements 1 0 (drop (requirement_start c.units) bs)) _ b us.2 in
    let parts = took qs.2 in
    written_again bs b c byte e (there 0 (contents bs) c counts.1)
    (there 1 (settings (drop 56 bs)) s.0 s.1 ∙ ap (λ (x : Book). taken x.settings) parts) (rs.1 ∙ ap (λ (x : Book). taken x.regions) parts)
    (us.1 ∙ ap (λ (x : Book). taken x.roster) parts) (qs.1 ∙ ap (λ (x : Book). taken x.requirements) parts) room h
