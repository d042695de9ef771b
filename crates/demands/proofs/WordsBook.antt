-- DEMAND 2 OVER WORDS: once a chain of C calls has all units in, dullavane_answer and dullavane_member give the rules' answer about the book that was taken, to
-- the cent, with names and standings. Of a book that the format takes the C calls take every record; of one that it refuses they meet its refusal, number, place and t.
use Rattle.std.specs.Prelude.{Err}
use mathlib.Core.Path.{◌≡◌, refl, sym, ◌∙◌, ap, subst⁻¹}
use mathlib.Core.List.{List}
use Prim.Native.Nat.{ℕ, suc, ◌+◌, ◌-◌, ◌≤◌, ◌<◌}
use native.Mathlib.Omega.{arith}
use lib.ListN.{length, get_or}
use borrow.Author.Tests.{le-leb}
use Rattle.rules.specs.declared.Located.{Located}
use Rattle.rules.specs.Refusals.{Reply, taken, refused, located, at}
use Rattle.rules.specs.Book.{Requirement, Book}
use Rattle.rules.specs.Contents.{Counts, contents}
use Rattle.rules.specs.WholeBook.{book}
use Rattle.interval.specs.declared.Step.{Step}
use Rattle.interval.specs.Tally.{before_units}
use Rattle.interval.specs.Lent.{Lent}
use Rattle.interval.specs.Run.{in_run, records_in as run_length}
use Rattle.interval.specs.Calls.{opened}
use Rattle.chain.specs.Taken.{counts_in}
use Rattle.chain.specs.Long.{Long}
use Rattle.chain.specs.Chain.{Chain, RecordTaken}
use Rattle.chain.specs.Runs.{RunFrom}
use Rattle.chain.proofs.BookRuns.{run_takes, run_stops}
use Rattle.chain.specs.BookWay as below
use Rattle.chain.proofs.BookWay as below_laws
use Rattle.chain.specs.BookWay.{records_in, Hands, Takes, Stops, Meets}
use Rattle.chain.proofs.BookRefused.{refused_here, refused_book, book_refused, book_way}
use Rattle.chain.specs.Keeps.{BookMeans}
use Rattle.chain.specs.BookChain.{book_of}
use Rattle.chain.proofs.Spelled.{book_means, spelled_hands, chain_book}
use Rattle.chain.proofs.Answerable.{chain_answerable, units_answerable, ended_answerable, requirement_read}
use Rattle.answer.specs.BookAnswered.{Asks}
use Rattle.dullavane.specs.Words.{tally_words, with_words, said, reply_said, taking_said, words_after}
use Rattle.dullavane.specs.Promises.{ContentsCalled}
use Rattle.dullavane.specs.Runs.{UnitsCalled}
use Rattle.dullavane.proofs.Promises.{contents_opened}
use Rattle.demands.specs.WordsChain.{Turn, of_unit, Due, WordsCall, WordsChain}
use Rattle.demands.proofs.WordsLaws.{told_refused}
use Rattle.demands.proofs.WordsCalls.{call_steps, due_call}
use Rattle.demands.proofs.WordsRuns.{RunStepped, run_steps}
use Rattle.demands.proofs.WordsTheorem.{words_chain, chain_words}
use Rattle.demands.specs.WordsAnswer.{WordsAnswers}
use Rattle.demands.proofs.WordsAnswered.{answerable_answered}
use Rattle.demands.specs.WordsBook.{WordsMeets, WordsSpelled, WordsStops, WordsTakes, at_contents, at_record}

module _ {head : List ℕ} {part : ℕ → List ℕ} {l₀ : Lent} {ws₀ : List ℕ} (long : tally_words ≤ length ws₀) where
  -- wherever a run comes below, it comes over words
  run_there :
      {n m r : ℕ} {run ws ws' : List ℕ} {l l' : Lent} (d : WordsChain head part l₀ ws₀ n ws l) (s : RunStepped (words_chain d).tally ws run l r ws' l') →
      Chain head part l₀ m s.step.tally l' → WordsChain head part l₀ ws₀ m ws' l'
  run_there {m = m} {l' = l'} d s there =
      let words = s.words ∙ ap (with_words s.step.tally) (words_chain d).words in
      subst⁻¹ (λ (us : List ℕ). WordsChain head part l₀ ws₀ m us l') words (chain_words head part l₀ ws₀ long there)

  words_takes : {m : ℕ} → Takes head part l₀ m → WordsTakes head part l₀ ws₀ m
  words_takes {m} w =
      record { each = each; there = let x = w.there in (with_words x.0 ws₀, x.1, chain_words head part l₀ ws₀ long x.2); runs = runs }
    where
      runs :
          {n r : ℕ} {run ws ws' : List ℕ} {l l' : Lent} → n + run_length run ≤ m → n + run_length run ≤ before_units + (counts_in head).units →
          WordsChain head part l₀ ws₀ n ws l → RunFrom part n (run_length run) run → UnitsCalled ws run l r ws' l' →
          (r ≡ 0) × WordsChain head part l₀ ws₀ (n + run_length run) ws' l'
      runs inside last d from c =
          let x = words_chain d in
          let s = run_steps x.held c in
          let takes = run_takes x.chain s.promise w inside last from in
          (s.reply ∙ ap taking_said takes.0, run_there d s takes.1)

      each :
          {n r : ℕ} {ws ws' : List ℕ} {l l' : Lent} {turn : Turn} → n < m → WordsChain head part l₀ ws₀ n ws l → Due (counts_in head) n turn →
          WordsCall (part n) ws l r ws' l' turn → r ≡ 0
      each h d due c =
          let x = words_chain d in
          let s = call_steps x.held c in
          s.reply ∙ ap taking_said (w.each h x.chain (due_call due s.call))

  words_stops : {why : Located} {m : ℕ} → Stops head part l₀ why m → WordsStops head part l₀ ws₀ why m
  words_stops {why} {m} w =
      record {
        inside = w.inside;
        before = words_takes w.before;
        refuses = refuses;
        runs_refuse = runs_refuse;
        furthest = λ d. w.furthest (words_chain d).chain;
      }
    where
      runs_refuse :
          {n r : ℕ} {run ws ws' : List ℕ} {l l' : Lent} → n ≤ m → m < n + run_length run → Due (counts_in head) m of_unit →
          WordsChain head part l₀ ws₀ n ws l → RunFrom part n (suc (m - n)) run → UnitsCalled ws run l r ws' l' →
          (r ≡ said (in_run (m - n + 1) why.refusal)) × WordsChain head part l₀ ws₀ m ws' l'
      runs_refuse begins inside due d from c =
          let x = words_chain d in
          let s = run_steps x.held c in
          let stops = run_stops x.chain s.promise w begins inside due.1 from in
          (s.reply ∙ ap taking_said stops.reply, run_there d s stops.there)

      refuses :
          {r : ℕ} {ws ws' : List ℕ} {l l' : Lent} {turn : Turn} → WordsChain head part l₀ ws₀ m ws l → Due (counts_in head) m turn →
          WordsCall (part m) ws l r ws' l' turn → (r ≡ said why) × (ws' ≡ ws) × (l' ≡ l)
      refuses {ws = ws} d due c =
          let x = words_chain d in
          let s = call_steps x.held c in
          let e = w.refuses x.chain (due_call due s.call) in
          (s.reply ∙ ap (λ (s : Step). taking_said s.taking) e.0, s.words ∙ ap (λ (s : Step). words_after s ws) e.0, e.1)

  words_meets : {why : Located} → Meets head part l₀ why → WordsMeets head part l₀ ws₀ why
  words_meets (below.at_contents {x} p e) = at_contents (contents_opened head ws₀ long (Err x) p.reply (sym (ap said e)) refl)
  words_meets (below.at_record s) = at_record (words_stops s)

-- ---- on any chain the C call for the next record returns 0 where the format takes the record, whatever was tried in its place before and refused
pub next_taken :
    {head : List ℕ} {part : ℕ → List ℕ} {l₀ : Lent} {ws₀ : List ℕ} {n : ℕ} {ws : List ℕ} {l : Lent} → WordsChain head part l₀ ws₀ n ws l →
    Long l₀ (counts_in head).units → ((m i : ℕ) → m < n → get_or (part m) i 0 < 256) → RecordTaken part (counts_in head) n →
    {r : ℕ} {ws' : List ℕ} {l' : Lent} {turn : Turn} → Due (counts_in head) n turn → WordsCall (part n) ws l r ws' l' turn → r ≡ 0
next_taken {head} {part} {l₀} d lists_long bytes w due c =
    let x = words_chain d in
    let s = call_steps x.held c in
    s.reply ∙ ap taking_said (below_laws.next_taken head part l₀ x.chain lists_long bytes w (due_call due s.call))

-- ---- OF WHATEVER WAS HANDED IN: the book is the one that the parts spell which were taken, whatever was refused in between
module _ {head : List ℕ} {part : ℕ → List ℕ} {l₀ : Lent} {ws₀ : List ℕ} where
  -- once all units are in, for any requirements
  pub taken_answered :
      {n : ℕ} {ws : List ℕ} {l : Lent} (d : WordsChain head part l₀ ws₀ n ws l) → before_units + (counts_in head).units ≤ n →
      ((m i : ℕ) → m < n → get_or (part m) i 0 < 256) → (qs : List Requirement) →
      WordsAnswers (book_of (counts_in head).units part qs) (words_chain d).tally ws l
  taken_answered {ws = ws} d all bytes qs = let x = words_chain d in answerable_answered ws (chain_answerable x.chain all bytes qs) x.held

pub ended_answered :
    {head : List ℕ} {part : ℕ → List ℕ} {l₀ : Lent} {ws₀ ws : List ℕ} {l : Lent} (d : WordsChain head part l₀ ws₀ (records_in head) ws l) →
    ((m i : ℕ) → m < records_in head → get_or (part m) i 0 < 256) → WordsSpelled head part (words_chain d).tally ws l
ended_answered {ws = ws} d bytes =
    let x = words_chain d in
    let b = chain_book x.chain in
    record {
      the_book = b.0;
      spells = b.1;
      means = b.2;
      answers = answerable_answered ws (ended_answerable x.chain bytes) x.held;
      asks = requirement_read (spelled_hands x.chain) b.0 b.1;
    }

-- ---- OF A BOOK that the format takes, handed on whole or cut, with lists and words that are long enough
pub record WordsBook (b : Book) (head : List ℕ) (part : ℕ → List ℕ) (l₀ : Lent) (ws₀ : List ℕ) : Type 0 where
  -- whatever is refused in between, the C calls take every record
  pub takes : WordsTakes head part l₀ ws₀ (records_in head)
  pub means : {ws : List ℕ} {l : Lent} (d : WordsChain head part l₀ ws₀ (records_in head) ws l) → BookMeans b (words_chain d).tally l
  -- and give the rules' answers from the last unit on
  pub answers :
      {n : ℕ} {ws : List ℕ} {l : Lent} (d : WordsChain head part l₀ ws₀ n ws l) → before_units + (counts_in head).units ≤ n →
      WordsAnswers b (words_chain d).tally ws l
  pub asks : Asks head part b

module _
    {bs head : List ℕ} {part : ℕ → List ℕ} {l₀ : Lent} {ws₀ : List ℕ} (hands : Hands bs head part)
    (lists_long : contents bs ≡ taken (counts_in bs) → Long l₀ (counts_in bs).units) (long : tally_words ≤ length ws₀)
    (bytes : (i : ℕ) → get_or bs i 0 < 256) where
  pub words_book : (b : Book) → book bs ≡ taken b → WordsBook b head part l₀ ws₀
  words_book b e =
      record {
        takes = words_takes long (book_way l₀ hands lists_long bytes b e);
        means = λ d. book_means hands (words_chain d).chain b e;
        answers = answers;
        asks = requirement_read hands b e;
      }
    where
      answers :
          {n : ℕ} {ws : List ℕ} {l : Lent} (d : WordsChain head part l₀ ws₀ n ws l) → before_units + (counts_in head).units ≤ n →
          WordsAnswers b (words_chain d).tally ws l
      answers {ws = ws} d all = let x = words_chain d in answerable_answered ws (units_answerable hands b e x.chain all bytes) x.held

  -- ---- of one that it refuses they meet its refusal, and whatever refusal they meet, the format refuses the book with it
  pub words_refused : {why : Located} → book bs ≡ refused why → WordsMeets head part l₀ ws₀ why
  words_refused e = words_meets long (book_refused l₀ hands lists_long bytes e)

  pub refused_contents_words :
      {r : ℕ} {ws : List ℕ} → ContentsCalled head ws₀ r ws → 0 < r → (why : Located) × (r ≡ said why) × (book bs ≡ refused why)
  refused_contents_words {r} c h = go (contents head) refl (rw (le-leb tally_words (length ws₀) long) at c.reply)
    where
      go : (y : Reply Counts) → contents head ≡ y → r ≡ reply_said (at 0 y) → (why : Located) × (r ≡ said why) × (book bs ≡ refused why)
      go (taken c) e f = absurd (omega arith)
      go (refused x) e f =
          (located 0 x, f, refused_book l₀ hands lists_long bytes (below.at_contents (record { reply = ap opened (sym e) }) refl))

  pub refused_words :
      {n r : ℕ} {ws ws' : List ℕ} {l l' : Lent} {turn : Turn} → WordsChain head part l₀ ws₀ n ws l → n < records_in head → Due (counts_in head) n turn →
      WordsCall (part n) ws l r ws' l' turn → 0 < r → (why : Located) × (r ≡ said why) × (book bs ≡ refused why)
  refused_words d inside due c h =
      let x = words_chain d in
      let s = call_steps x.held c in
      let no = told_refused s.step (omega (arith, s.reply)) in
      (no.0, s.reply ∙ ap taking_said no.1, refused_here l₀ hands lists_long bytes x.chain inside (due_call due s.call) no.1)
