-- Laws of the definitions in specs/Reports.antt: what is not 0 is 1 where that is all it may be, and that no two answers are allowed.
use Rattle.std.specs.Prelude.{Result, Ok, Err}
use mathlib.Core.Path.{◌≡◌, refl, sym, ◌∙◌, ap, subst}
use mathlib.Core.Bool.{Bool, true, false, ◌&&◌, true≢false}
use mathlib.Core.List.{List}
use Prim.Native.Nat.{ℕ, zero, suc, ◌≤◌, ◌<◌}
use native.Mathlib.Omega.{arith}
use borrow.Author.Tests.{ltb-true, le-leb, lt-leb}
use lib.Dec.{leb, ltb}
use lib.IntN.{ℤ}
use lib.ListN.{length}
use Rattle.integers.specs.Sums.{both}
use Rattle.rules.specs.declared.Refusal.{Refusal}
use Rattle.rules.specs.declared.Refusal.TheVariants.{WrongState, TooShort}
use Rattle.rules.specs.declared.Reported.{Reported}
use Rattle.rules.specs.declared.Reported.TheVariants.{Residual}
use Rattle.rules.specs.declared.FigureType.{FigureType}
use Rattle.rules.specs.declared.FigureType.TheVariants.{Default}
use Rattle.rules.specs.declared.ReportRow.{ReportRow}
use Rattle.rules.specs.Refusals.{Reply, taken, refused, unless, number, located, ◌>>=◌}
use Rattle.rules.specs.Report.{region_name}
use Rattle.rules.specs.ReportRow.{row_written, text_after}
use Rattle.rules.specs.ReportRead.{row_read}
use Rattle.interval.specs.declared.Tally.{Tally}
use Rattle.interval.specs.Tally.{in_range, answer_turn}
use Rattle.interval.specs.Lent.{Lent}
use Rattle.kept.specs.KeptReport.{report_reply}
use Rattle.report_row.specs.Promises.{written_answer, read_answer, WritePromise, ReadPromise}
use Rattle.answer.specs.Report.{ReportPromise}
use Rattle.dullavane.specs.Words.{said, held, tally_of, words_fit}
use Rattle.dullavane.specs.Asked.{asked_tally, in_turn}
use Rattle.dullavane.specs.Reports.{
  number_narrow,
  row_narrow,
  type_in,
  whose_in,
  row_in,
  written_told,
  row_told,
  row_reply,
  book_row,
  report_answer,
  read_reply,
  reply_told,
  read_told,
  numbers_left,
  numbers_after,
  RowCalled,
  ReportCalled,
  ReadCalled,
}

pub default_of : (n : ℕ) → (n ≡ 0 → ⊥) → Default ≡ type_in n
default_of zero h = absurd (h refl)
default_of (suc n) h = refl

pub region_narrow : (n number : ℕ) → (n ≡ 0 → ⊥) → ltb number 5 ≡ number_narrow n number
region_narrow zero number h = absurd (h refl)
region_narrow (suc n) number h = refl

pub residual_of : (n number : ℕ) → (n ≡ 0 → ⊥) → Residual (region_name number) ≡ whose_in n number
residual_of zero number h = absurd (h refl)
residual_of (suc n) number h = refl

-- ---- numbers that are within their fields
pub record Narrow (residual number raise_type lower_type version : ℕ) : Type 0 where
  pub version_few : version < 65_536
  pub number_few : number < 65_536

pub narrow_means : (residual number raise_type lower_type version : ℕ) → row_narrow residual number raise_type lower_type version ≡ true →
    Narrow residual number raise_type lower_type version
unfolding row_narrow
narrow_means residual number raise_type lower_type version e =
    let a = (both (ltb residual 2) _ e).1 in
    let b = (both (ltb raise_type 2) _ a).1 in
    let c = (both (ltb lower_type 2) _ b).1 in
    let d = both (ltb version 65_536) _ c in
    record { version_few = ltb-true version 65_536 d.0; number_few = go residual d.1 }
  where
    go : (n : ℕ) → number_narrow n number ≡ true → number < 65_536
    go zero h = ltb-true number 65_536 h
    go (suc n) h = omega (arith, ltb-true number 5 h)

-- ---- what is told of a row that was written
row_told_so : (m : Reply (List ℕ)) → row_told (written_answer m) ≡ written_told m
row_told_so (taken row) = refl
row_told_so (refused x) = refl

pub narrow_refused : {narrow : Bool} {row : ReportRow} {old : List ℕ} {r : ℕ} → narrow ≡ false → r ≡ 11 → RowCalled narrow row old r old
unfolding row_reply
narrow_refused e told = record { reply = told ∙ rw e; text = rw e }

pub row_was_told : {narrow : Bool} {row : ReportRow} {old new : List ℕ} {a : Result ℕ Refusal} {r : ℕ} → narrow ≡ true → WritePromise row old a new →
    r ≡ row_told a → RowCalled narrow row old r new
unfolding row_reply
row_was_told {row = row} {old} e p told =
    record { reply = told ∙ ap row_told p.reply ∙ row_told_so (row_written row (length old)) ∙ rw e; text = p.text ∙ rw e }

-- the row as it is put together from the numbers
pub row_made : (interval residual number raise_type lower_type version : ℕ) (raise lower : ℤ) {w : Reported} {t u : FigureType} {x y : ℤ} →
    w ≡ whose_in residual number → x ≡ raise → t ≡ type_in raise_type → y ≡ lower → u ≡ type_in lower_type → {old new : List ℕ} {a : Result ℕ Refusal} →
    WritePromise (record {
      interval = interval;
      whose = w;
      raise = record { performance = x; typed = t };
      lower = record { performance = y; typed = u };
      version = version;
    }) old a new → WritePromise (row_in interval residual number raise raise_type lower lower_type version) old a new
row_made interval residual number raise_type lower_type version raise lower whose up up_type down down_type p =
    rw (whose, up, up_type, down, down_type) at p

-- ---- what a call found
row_in_found : ReportRow → Result ReportRow Refusal → ReportRow
row_in_found z (Ok x) = x
row_in_found z (Err x) = z

refusal_in : Refusal → Result ReportRow Refusal → Refusal
refusal_in z (Ok x) = z
refusal_in z (Err x) = x

is_found : Result ReportRow Refusal → Bool
is_found (Ok x) = true
is_found (Err x) = false

refused_found : {x : Refusal} {y : ReportRow} → Err x ≡ Ok y → ⊥
unfolding is_found
refused_found e = true≢false (sym (ap is_found e))

-- ---- a row of a taken book. What the words are refused with has no place and no t, and is told as its number
abbrev Plain : Reply Tally → Type 0
Plain (taken t) = Unit {0}
Plain (refused x) = said (located 0 x) ≡ number x

asked_plain : (ws : List ℕ) (narrow long : Bool) → Plain (asked_tally ws narrow long)
unfolding asked_tally held in_turn
asked_plain ws narrow long = go (leb 8 (length ws)) (words_fit ws)
  where
    turn : (b c d : Bool) → Plain (unless b WrongState (unless c WrongState (unless d TooShort (taken (tally_of ws)))))
    turn false c d = refl
    turn true false d = refl
    turn true true false = refl
    turn true true true = tt

    go : (b c : Bool) → Plain (unless b TooShort (unless c WrongState (taken (tally_of ws))) >>= in_turn narrow long)
    go false c = refl
    go true false = refl
    go true true = turn (in_range (tally_of ws) && answer_turn (tally_of ws)) narrow long

abbrev words_of : List ℕ → ℕ → Reply Tally
words_of ts version = asked_tally ts (ltb version 65_536) true

module _ (ts : List ℕ) (row version : ℕ) (l : Lent) (old : List ℕ) where
  pub words_refused : {x : Refusal} {r : ℕ} → words_of ts version ≡ refused x → r ≡ number x → ReportCalled ts row version l old r old
  unfolding book_row report_answer
  words_refused {x} q told =
      let p : said (located 0 x) ≡ number x = subst Plain q (asked_plain ts (ltb version 65_536) true) in
      record { reply = told ∙ sym p ∙ rw q; text = rw q }

  -- past the words, what the two calls below answer
  module _ {t : Tally} (held : words_of ts version ≡ taken t) where
    pub row_refused : {x : Refusal} {r : ℕ} → ReportPromise t row version l (Err x) → r ≡ said (located 0 x) → ReportCalled ts row version l old r old
    unfolding book_row report_answer refusal_in
    row_refused {x} {r} p told = go (report_reply t row version l) refl
      where
        go : (m : Reply ReportRow) → report_reply t row version l ≡ m → ReportCalled ts row version l old r old
        go (taken y) e = absurd (refused_found (rw e at p.reply))
        go (refused y) e =
            let same : x ≡ y = ap (refusal_in x) (rw e at p.reply) in
            record { reply = told ∙ ap (λ (z : Refusal). said (located 0 z)) same ∙ rw (held, e); text = rw (held, e) }

    pub row_reported : {x : ReportRow} {a : Result ℕ Refusal} {r : ℕ} {new : List ℕ} → ReportPromise t row version l (Ok x) → WritePromise x old a new →
        r ≡ row_told a → ReportCalled ts row version l old r new
    unfolding book_row report_answer row_in_found
    row_reported {x} {a} {r} {new} p w told = go (report_reply t row version l) refl
      where
        go : (m : Reply ReportRow) → report_reply t row version l ≡ m → ReportCalled ts row version l old r new
        go (refused y) e = absurd (refused_found (sym (rw e at p.reply)))
        go (taken y) e =
            let same : x ≡ y = ap (row_in_found x) (rw e at p.reply) in
            record {
              reply =
                  told ∙ ap row_told w.reply ∙ row_told_so (row_written x (length old))
                  ∙ ap (λ (z : ReportRow). written_told (row_written z (length old))) same ∙ rw (held, e);
              text = w.text ∙ ap (λ (z : ReportRow). text_after (row_written z (length old)) old) same ∙ rw (held, e);
            }

-- ---- a row that is read back
read_told_so : (m : Reply ReportRow) → read_told (read_answer m) ≡ reply_told m
read_told_so (taken row) = refl
read_told_so (refused x) = refl

numbers_so : (m : Reply ReportRow) (xs : List ℤ) → numbers_after (read_answer m) xs ≡ numbers_left m xs
numbers_so (taken row) xs = refl
numbers_so (refused x) xs = refl

pub read_short : {bytes : List ℕ} {old : List ℤ} {r : ℕ} → length old < 8 → r ≡ 12 → ReadCalled bytes old r old
unfolding read_reply
read_short {old = old} h told = record { reply = told ∙ rw (lt-leb 8 (length old) h); numbers = rw (lt-leb 8 (length old) h) }

pub row_was_read : {bytes : List ℕ} {old new : List ℤ} {a : Result ReportRow Refusal} {r : ℕ} → 8 ≤ length old → ReadPromise bytes a → r ≡ read_told a →
    new ≡ numbers_after a old → ReadCalled bytes old r new
unfolding read_reply
row_was_read {bytes} {old} h p told left =
    record {
      reply = told ∙ ap read_told p.reply ∙ read_told_so (row_read bytes) ∙ rw (le-leb 8 (length old) h);
      numbers = left ∙ ap (λ (x : Result ReportRow Refusal). numbers_after x old) p.reply ∙ numbers_so (row_read bytes) old ∙ rw (le-leb 8 (length old) h);
    }

-- no two answers are allowed
pub dullavane_report_row_only : (narrow : Bool) (row : ReportRow) (old : List ℕ) {r r' : ℕ} {new new' : List ℕ} →
    RowCalled narrow row old r new → RowCalled narrow row old r' new' → (r ≡ r') × (new ≡ new')
dullavane_report_row_only narrow row old a b = (a.reply ∙ sym b.reply, a.text ∙ sym b.text)

pub dullavane_report_only : (ts : List ℕ) (row version : ℕ) (l : Lent) (old : List ℕ) {r r' : ℕ} {new new' : List ℕ} →
    ReportCalled ts row version l old r new → ReportCalled ts row version l old r' new' → (r ≡ r') × (new ≡ new')
dullavane_report_only ts row version l old a b = (a.reply ∙ sym b.reply, a.text ∙ sym b.text)

pub dullavane_report_read_only : (bytes : List ℕ) (old : List ℤ) {r r' : ℕ} {new new' : List ℤ} →
    ReadCalled bytes old r new → ReadCalled bytes old r' new' → (r ≡ r') × (new ≡ new')
dullavane_report_read_only bytes old a b = (a.reply ∙ sym b.reply, a.numbers ∙ sym b.numbers)
