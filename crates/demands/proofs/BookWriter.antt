-- R-4, THE BOOK WRITER: 'What it writes is read back as exactly what was given, and any book that the reader accepts is written again byte for byte.' Over
-- the call
-- and over C: whatever the promise allows is what is said here.
use Rattle.std.specs.Prelude.{Result, Ok, Err}
use mathlib.Core.Path.{◌≡◌, refl, sym, ◌∙◌, ap, subst}
use mathlib.Core.Bool.{true}
use mathlib.Core.List.{List, ◌++◌}
use Prim.Native.Nat.{ℕ, ◌*◌, ◌/◌, ◌%◌, ◌≤◌, ◌<◌}
use native.Mathlib.Omega.{arith}
use lib.ListN.{length, get_or, take, drop}
use lib.Seq.{take-append_seam, drop-append_seam}
use Rattle.rules.specs.declared.Located.{Located}
use Rattle.rules.specs.Refusals.{LocatedReply, taken, refused, number, ◌>>=◌}
use Rattle.rules.specs.Book.{Book}
use Rattle.rules.specs.WholeBook.{book}
use Rattle.rules.specs.Given.{Given}
use Rattle.rules.specs.Written.{book_laid, book_given, long_enough, counts_fine, written}
use Rattle.rules.specs.Said.{Fit, Typed, said, handed, can_come}
use Rattle.laws.proofs.WrittenLaws.{refused_alike}
use Rattle.laws.proofs.WriterLaws.{never, written_taken}
use Rattle.laws.proofs.LaidBytes.{book_small}
use Rattle.laws.proofs.RoundTrips.{written_read, read_written}
use Rattle.chain.proofs.BookRefused.{book_way}
use Rattle.writer.specs.Promise.{write_reply, write_kept, WritePromise}
use Rattle.dullavane.specs.Words.{said as said_in_one}
use Rattle.dullavane.specs.Writing.{written_told, answer_told, WriteCalled}
use Rattle.dullavane.proofs.WordsLaws.{Apart, told_apart}
use Rattle.dullavane.proofs.WritingLaws.{length_apart}
use Rattle.demands.specs.BookWriter.{BookOf}
use Rattle.demands.proofs.WriterPlaces.{written_place}

never_equal : {A : Type 0} → ◌≡◌ {A = ℕ} 0 1 → A
never_equal e = absurd (omega (arith, e))

-- what a reply says of what was to be written
reply_length : (x : LocatedReply (List ℕ)) (n : ℕ) → Ok n ≡ write_reply x → (bs : List ℕ) × (x ≡ taken bs) × (n ≡ length bs)
reply_length (taken bs) n e = let same : n ≡ length bs = cc in (bs, refl, same)
reply_length (refused w) n e = never_equal (cc)

reply_refused : (x : LocatedReply (List ℕ)) (w : Located) → Err w ≡ write_reply x → x ≡ refused w
reply_refused (taken bs) w e = never_equal (cc)
reply_refused (refused v) w e = let same : w ≡ v = cc in ap refused (sym same)

-- ---- 'What it writes is read back as exactly what was given'
pub written_taken_back : {g : Given} {old new : List ℕ} {n : ℕ} → Typed g → WritePromise g old (Ok n) new → BookOf g n old new
written_taken_back {g} {old} {new} {n} typed p =
    let told = reply_length (written g (length old)) n p.reply in
    let bs = told.0 in
    let is = written_taken g (length old) bs told.1 in
    let laid_out : new ≡ bs ++ drop (length bs) old = p.book ∙ ap (λ (x : LocatedReply (List ℕ)). write_kept x old) told.1 in
    let front : take n new ≡ bs = ap (λ (k : ℕ). take k new) told.2 ∙ ap (take (length bs)) laid_out ∙ take-append_seam bs (drop (length bs) old) in
    let read = written_read g (length old) bs typed told.1 in
    record {
      size = told.2 ∙ is.size;
      read = ap book front ∙ read;
      behind =
          ap (λ (k : ℕ). drop k new) told.2 ∙ ap (drop (length bs)) laid_out ∙ drop-append_seam bs (drop (length bs) old)
          ∙ ap (λ (k : ℕ). drop k old) (sym told.2);
      called =
          λ l₀ hands lists.
          book_way l₀ hands lists (λ i. subst (λ (l : List ℕ). get_or l i 0 < 256) (sym (front ∙ is.bytes)) (book_small g i)) (said g) (ap book front ∙ read);
    }

-- ---- 'any book that the reader accepts is written again byte for byte', at any length of the buffer from its own on
pub written_again : (bs : List ℕ) (b : Book) → ((i : ℕ) → get_or bs i 0 < 256) → book bs ≡ taken b → {old new : List ℕ} {r : Result ℕ Located} → length bs ≤ length old →
    WritePromise (handed b) old r new → (r ≡ Ok (length bs)) × (new ≡ bs ++ drop (length bs) old)
written_again bs b byte e {old} {new} {r} room p =
    let is = read_written bs b byte e (length old) room in
    (p.reply ∙ ap write_reply is, p.book ∙ ap (λ (x : LocatedReply (List ℕ)). write_kept x old) is)

-- ---- given values and the bytes laid out for them, writer and reader refuse the same, with number, place and t
behind : (x y : LocatedReply Book) (bs : List ℕ) → x ≡ y → write_reply (x >>= λ b. taken bs) ≡ write_reply (y >>= λ b. taken bs)
behind x y bs e = ap (λ (z : LocatedReply Book). write_reply (z >>= λ b. taken bs)) e

pub refused_as_read : {g : Given} {old new : List ℕ} {r : Result ℕ Located} → Fit g → long_enough g
    (length old) ≡ true → counts_fine g ≡ true → WritePromise g old r new →
    r ≡ write_reply (book (book_laid g) >>= λ b. taken (book_laid g))
unfolding written
refused_as_read {g} {old} fit long fine p =
    p.reply ∙ rw (long, fine) (behind (book_given g) (book (book_laid g)) (book_laid g) (refused_alike g fit fine))

-- ---- 1 to 4 and 11 cannot come, and what can
pub refusals_that_come : {g : Given} {old new : List ℕ} {w : Located} → WritePromise g old (Err w) new → can_come (number w.refusal) ≡ true
refusals_that_come {g} {old} {w} p = never g (length old) w (reply_refused (written g (length old)) w p.reply)

-- ---- over C: what a call returns and leaves is what the writer answers and leaves, told in one number
pub called_is : (g : Given) (old : List ℕ) {r : ℕ} {new : List ℕ} → WriteCalled g old r new → (a : Result ℕ Located) × (WritePromise g old a new) × (r ≡ answer_told a)
called_is g old c =
    let x = written g (length old) in
    (write_reply x, record { reply = refl; book = c.book }, c.reply ∙ told x)
  where
    told : (x : LocatedReply (List ℕ)) → written_told x ≡ answer_told (write_reply x)
    told (taken bs) = refl
    told (refused w) = refl

-- the header's macros: 0 in the lower half and the length in the upper half, or number, place and t of the refusal
pub written_told_apart : {g : Given} {old new : List ℕ} {r : ℕ} → WriteCalled g old r new →
    (n : ℕ) → WritePromise g old (Ok n) new → (r % 0x1_0000_0000 ≡ 0) × (r / 0x1_0000_0000 ≡ n)
written_told_apart {g} {old} c n p =
    let told = reply_length (written g (length old)) n p.reply in
    let is = c.reply ∙ ap written_told told.1 ∙ ap (λ (k : ℕ). k * 0x1_0000_0000) (sym told.2) in
    (ap (λ (k : ℕ). k % 0x1_0000_0000) is ∙ (length_apart n).0, ap (λ (k : ℕ). k / 0x1_0000_0000) is ∙ (length_apart n).1)

pub refused_told_apart : {g : Given} {old new : List ℕ} {r : ℕ} → WriteCalled g old r new → (w : Located) → WritePromise g old (Err w) new →
    (r ≡ said_in_one w) × (Apart w)
refused_told_apart {g} {old} c w p =
    let is = reply_refused (written g (length old)) w p.reply in
    (c.reply ∙ ap written_told is, told_apart w (omega (arith, written_place g (length old) w is)))
