-- DEMAND 2: 'Measures, deviations, performances, factors, corrective response and cents equal the Procedure's rules as document 01 writes them in whole
-- numbers, for raise and for lower, at every roster size from 0 to 512.' The rules are the definitions of crates/rules; what each call promises stands in
-- crates/interval and crates/answer (Promises), and for C in crates/dullavane. Here: what the calls keep and what they answer is what the rules say of the
-- book,
-- from its bytes to the last cent, name and standing, and nothing of it is refused. A caller hands parts on whole or cut behind their record (`Hands`: what
-- stands behind a record does not matter), may make calls that are refused, of any bytes, anywhere in between, and may put a refused record right.
use mathlib.Core.Path.{◌≡◌, subst}
use mathlib.Core.List.{List}
use Prim.Native.Nat.{ℕ, ◌+◌, ◌≤◌, ◌<◌}
use native.Mathlib.Omega.{arith}
use lib.ListN.{length, get_or}
use Rattle.rules.specs.Refusals.{taken}
use Rattle.rules.specs.Quantities.{most_units}
use Rattle.rules.specs.Book.{Requirement, Book}
use Rattle.rules.specs.WholeBook.{book}
use Rattle.laws.proofs.LimitsLaws.{book_fits}
use Rattle.interval.specs.declared.Tally.{Tally}
use Rattle.interval.specs.Tally.{before_units}
use Rattle.interval.specs.Lent.{Lent}
use Rattle.chain.specs.Taken.{counts_in}
use Rattle.chain.specs.Long.{Long}
use Rattle.chain.specs.Chain.{Chain}
use Rattle.chain.specs.BookRecords.{part_of}
use Rattle.chain.specs.BookWay.{records_in, Hands}
use Rattle.chain.proofs.BookWay.{hands_whole}
use Rattle.chain.specs.BookRuns.{run_of}
use Rattle.chain.proofs.BookRuns.{cut_out, cut_records}
use Rattle.chain.specs.BookChain.{book_of}
use Rattle.answer.proofs.BookAnswered as calls
use Rattle.answer.specs.BookAnswered.{RulesAnswers, SpelledAnswered, BookAnswered}
use Rattle.dullavane.specs.Words.{tally_words}
use Rattle.dullavane.specs.Runs.{UnitsCalled}
use Rattle.demands.specs.WordsChain.{WordsChain}
use Rattle.demands.proofs.WordsTheorem.{words_chain}
use Rattle.demands.specs.WordsAnswer.{WordsAnswers}
use Rattle.demands.proofs.WordsBook as words
use Rattle.demands.specs.WordsBook.{WordsSpelled}
use Rattle.demands.proofs.WordsBook.{WordsBook}

-- ---- OF A BOOK that the format takes, handed on with lists that are long enough for its units. `BookAnswered`: every record is taken, whatever is refused in
-- between; at the end measures, sums of deviations, reliability, performances and defaults in the lent lists are the rules' (`means`); from the last unit on
-- every part that a requirement's record starts is answered as the rules say (`answers`: figures, the five columns, names and standings)
module _
    {bs head : List ℕ} {part : ℕ → List ℕ} (hands : Hands bs head part) (b : Book) (e : book bs ≡ taken b) (bytes : (i : ℕ) → get_or bs i 0 < 256)
    (l₀ : Lent) (lists_long : Long l₀ (counts_in bs).units) where
  pub book_answered : BookAnswered b head part l₀
  book_answered = calls.book_answered hands b e bytes l₀ lists_long

  -- over C words, eight of them at least, in which the firmware holds the tally
  pub book_answered_over_words : (ws₀ : List ℕ) → tally_words ≤ length ws₀ → WordsBook b head part l₀ ws₀
  book_answered_over_words ws₀ long = words.words_book hands (λ _. lists_long) long bytes b e

-- its units by runs, cut out of it anywhere and of any lengths, singly, or mixed: each run is taken, and the chain goes on behind it
module _
    {bs : List ℕ} (b : Book) (e : book bs ≡ taken b) (bytes : (i : ℕ) → get_or bs i 0 < 256) (l₀ : Lent) (lists_long : Long l₀ (counts_in bs).units)
    (ws₀ : List ℕ) (long : tally_words ≤ length ws₀) where
  pub units_by_runs :
      {n r : ℕ} (k : ℕ) {ws ws' : List ℕ} {l l' : Lent} → WordsChain bs (part_of bs) l₀ ws₀ n ws l → before_units ≤ n →
      n + k ≤ before_units + (counts_in bs).units → UnitsCalled ws (run_of bs n k) l r ws' l' → (r ≡ 0) × WordsChain bs (part_of bs) l₀ ws₀ (n + k) ws' l'
  units_by_runs {n} {r} k {ws} {ws'} {l} {l'} d first last c =
      let takes = (words.words_book (hands_whole bs) (λ _. lists_long) long bytes b e).takes in
      let end = (words_chain takes.there.2).chain in
      let inside : n + k ≤ records_in bs = omega arith in
      let same = cut_records bs n k first last end inside in
      let went = takes.runs (omega (arith, same)) (omega (arith, same)) d (cut_out bs n k first last end inside) c in
      (went.0, subst (λ (j : ℕ). WordsChain bs (part_of bs) l₀ ws₀ (n + j) ws' l') same went.1)

-- ---- OF WHATEVER WAS HANDED IN: a chain of calls that has ended took a book, the one that the parts spell which were taken; it was never there as a whole if
-- a record was refused, put right and tried again. What is kept and what is answered is what the rules say of this book
module _ {head : List ℕ} {part : ℕ → List ℕ} {l₀ : Lent} (bytes : (m i : ℕ) → m < records_in head → get_or (part m) i 0 < 256) where
  pub spelled_answered : {t : Tally} {l : Lent} → Chain head part l₀ (records_in head) t l → SpelledAnswered head part t l
  spelled_answered d = calls.chain_answered d bytes

  pub spelled_answered_over_words :
      {ws₀ ws : List ℕ} {l : Lent} (d : WordsChain head part l₀ ws₀ (records_in head) ws l) → WordsSpelled head part (words_chain d).tally ws l
  spelled_answered_over_words d = words.ended_answered d bytes

-- ---- and before its end: once all units are in, about the book of the settings, regions and units that were taken, whatever its requirements will be
module _
    {head : List ℕ} {part : ℕ → List ℕ} {l₀ : Lent} {n : ℕ} (all : before_units + (counts_in head).units ≤ n)
    (bytes : (m i : ℕ) → m < n → get_or (part m) i 0 < 256) (qs : List Requirement) where
  pub units_answered : {t : Tally} {l : Lent} → Chain head part l₀ n t l → RulesAnswers (book_of (counts_in head).units part qs) t l
  units_answered d = calls.taken_answered d all bytes qs

  pub units_answered_over_words :
      {ws₀ ws : List ℕ} {l : Lent} (d : WordsChain head part l₀ ws₀ n ws l) →
      WordsAnswers (book_of (counts_in head).units part qs) (words_chain d).tally ws l
  units_answered_over_words d = words.taken_answered d all bytes qs

-- ---- 'at every roster size from 0 to 512': no book that the format takes has more, and nothing above asks how many there are
pub rosters : (bs : List ℕ) (b : Book) → book bs ≡ taken b → length b.roster ≤ most_units
rosters bs b e = (book_fits bs b e).few
