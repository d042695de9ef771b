-- DEMAND 1: 'A book of arbitrary bytes, or a call at the wrong time, gets an answer or a numbered refusal. No entry relies on its caller's checks. A refusal
-- hands the tally back as it came and writes nothing.' For a run of units R-6 amends the last sentence: the records before the refused one stay added. No
-- function that a firmware calls has a condition on what it is handed, so each answers, whatever the tally, the bytes and the lists are; here stands that its
-- promise allows one answer alone, and what this is. First what is asked for, then the theorems.
use Rattle.std.specs.Prelude.{Result, Ok, Err, ⊤}
use Rattle.answer.specs.declared.Answer.{Answer}
use mathlib.Core.Path.{◌≡◌, refl, sym, ◌∙◌, ap}
use mathlib.Core.Bool.{Bool, true, false, cond}
use mathlib.Core.List.{List, []}
use mathlib.Core.Logic.{◌⊎◌, inl, inr}
use Prim.Native.Nat.{ℕ, ◌+◌, ◌≤◌, ◌<◌}
use native.Mathlib.Omega.{arith}
use lib.Dec.{eqb}
use lib.ListN.{get_or, length}
use borrow.Author.Tests.{eqb-true}
use Rattle.rules.specs.declared.Refusal.{Refusal}
use Rattle.rules.specs.declared.Refusal.TheVariants.{EndsEarly}
use Rattle.rules.specs.declared.Located.{Located}
use Rattle.rules.specs.Quantities.{most_units}
use Rattle.rules.specs.Refusals.{Reply, LocatedReply, taken, refused, located, number}
use Rattle.rules.specs.Book.{Requirement, Book}
use Rattle.rules.specs.Contents.{Counts, contents}
use Rattle.rules.specs.WholeBook.{book}
use Rattle.interval.specs.declared.Tally.{Tally}
use Rattle.interval.specs.declared.Step.{Step}
use Rattle.interval.specs.Lent.{Lent}
use Rattle.interval.specs.Calls.{stopped_step, stepped, left, settled, counted, settings_reply, requirement_reply}
use Rattle.interval.specs.Promises.{SettingsPromise, RequirementPromise}
use Rattle.interval.specs.Run.{Ran, RunPromise, in_run, records_in, run_taken, whole}
use Rattle.interval.proofs.RunLaws.{empty_run, ragged_run, run_only}
use Rattle.chain.specs.Taken.{counts_in}
use Rattle.chain.specs.Long.{Long}
use Rattle.chain.specs.Way.{Call}
use Rattle.chain.proofs.Way.{call_only, refused_leaves, refused_names, any_frequency, any_unit}
use Rattle.chain.specs.Runs.{RunOutcome, is_ragged, stops_behind, takes_all}
use Rattle.chain.proofs.Runs.{run_outcome, singly_counts, singly_none}
use Rattle.chain.specs.BookWay.{Hands}
use Rattle.chain.proofs.BookRefused.{book_refused, book_way}
use Rattle.chain.proofs.Mixed.{mixed_told}
use Rattle.kept.specs.Kept.{kept_answer}
use Rattle.answer.specs.Promises.{Columns, AnswerPromise, answer_reply, shown, replied, with_lines}
use Rattle.answer.proofs.Promises.{answer_only}
use Rattle.dullavane.specs.Words.{held, said, taking_said, told, words_after}
use Rattle.dullavane.specs.Runs.{UnitsCalled}
use Rattle.dullavane.specs.Called.{Called}
use Rattle.demands.specs.WordsChain.{
  Turn,
  of_settings,
  of_frequency,
  of_unit,
  of_requirement,
  Due,
  WordsCall,
  WordsChain,
  settings_called,
  frequency_called,
  unit_called,
  requirement_called,
  words_added,
}
use Rattle.dullavane.proofs.WordsLaws.{Apart, held_is, said_some, told_apart, unheld_said}
use Rattle.demands.specs.WordsCalls.{StepCall, settings_step, frequency_step, unit_step, requirement_step}
use Rattle.demands.proofs.WordsCalls.{due_call, refused_call}
use Rattle.demands.proofs.WordsRuns.{RunStepped, as_it_came, run_steps, singly_few}
use Rattle.demands.specs.OtherBook.{ToldApart}
use Rattle.demands.proofs.OtherBook as other
use Rattle.demands.proofs.WordsTheorem.{words_chain}
use Rattle.demands.specs.Demand1.{AnswerOutcome, BookOutcome, OneAnswer, OneRun, Outcome, WordsOutcome, WordsRunOutcome, gives, refuses, takes}

-- ---- the theorems
-- each call is due at some record of some book, so that the laws of such calls hold of it
abbrev two_records : Counts
two_records = record { units = 1; requirements = 1 }

due_at : Turn → ℕ
due_at of_settings = 0
due_at of_frequency = 1
due_at of_unit = 6
due_at of_requirement = 7

is_due : (turn : Turn) → Due two_records (due_at turn) turn
unfolding due_at
is_due of_settings = refl
is_due of_frequency = (omega arith, omega arith)
is_due of_unit = (omega arith, omega arith)
is_due of_requirement = (omega arith, omega arith)

module _ (turn : Turn) {t : Tally} {p : List ℕ} {l : Lent} {r : Step} {l' : Lent} (c : StepCall p t l r l' turn) where
  outcome_of : Outcome t l r l'
  outcome_of = go r.taking refl
    where
      go : (x : Result ⊤ Located) → r.taking ≡ x → Outcome t l r l'
      go (Ok tt) h = takes h
      go (Err why) h =
          let same = refused_leaves {c = two_records} (due_call (is_due turn) c) h in
          let named = refused_names {c = two_records} (due_call (is_due turn) c) h in
          refuses named.0 (same.0 ∙ ap (stopped_step t) (sym named.1)) same.1

  one_of : OneAnswer turn t p l
  one_of =
      record { reply = r; lists = l'; promised = c; only = λ d. call_only {c = two_records} (due_call (is_due turn) d) (due_call (is_due turn) c); outcome = outcome_of }

pub every_call : (turn : Turn) (t : Tally) (p : List ℕ) (l : Lent) → OneAnswer turn t p l
every_call of_settings t p l =
    let promise : SettingsPromise t p (stepped (settled t) (settings_reply t p) t) = record { reply = refl } in
    one_of of_settings (settings_step promise refl)
every_call of_frequency t p l = one_of of_frequency (frequency_step (any_frequency t p l).2)
every_call of_unit t p l = one_of of_unit (unit_step (any_unit t p l).2)
every_call of_requirement t p l =
    let promise : RequirementPromise t p (stepped (λ q. counted (q.number + 1) t) (requirement_reply t p) t) = record { reply = refl } in
    one_of of_requirement (requirement_step promise refl)

module _ {t : Tally} {p : List ℕ} {l : Lent} {old : Columns} where
  pub every_answer : {r : Result Answer Refusal} {new : Columns} → AnswerPromise t p l old r new → AnswerOutcome old r new
  every_answer {r} {new} c = go (answer_reply t p l old) c.reply c.written
    where
      go :
          (x : Reply Requirement) → r ≡ replied t l x → new ≡ left (λ q. with_lines (kept_answer t l q)) x old → AnswerOutcome old r new
      go (taken q) e w = gives (shown q (kept_answer t l q)) e
      go (refused why) e w = refuses why e w

  pub one_answer : {r r' : Result Answer Refusal} {new new' : Columns} → AnswerPromise t p l old r new → AnswerPromise t p l old r' new' → (r ≡ r') × (new ≡ new')
  one_answer c d = answer_only t p l old c d

-- what a step is told as is 0 or a refusal, and so is what words are told as which hold no tally
numbered :
    (Call : Tally → Step → Type 0) (Kept : Type 0) (ws ws' : List ℕ) {r : ℕ} (y : Reply Tally) → held ws ≡ y → Called told words_after Call Kept y ws r ws' →
    (r ≡ 0) ⊎ ((why : Located) × (r ≡ said why))
unfolding Called
numbered Call Kept ws ws' (taken t) h c = go c.step.taking c.reply
  where
    go : {r : ℕ} (x : Result ⊤ Located) → r ≡ taking_said x → (r ≡ 0) ⊎ ((why : Located) × (r ≡ said why))
    go (Ok tt) e = inl e
    go (Err why) e = inr (why, e)
numbered Call Kept ws ws' (refused x) h c = inr (located 0 x, c.reply ∙ unheld_said ws x h)

module _ {p ws : List ℕ} {l : Lent} {r : ℕ} {ws' : List ℕ} {l' : Lent} where
  pub every_words_call : {turn : Turn} → WordsCall p ws l r ws' l' turn → WordsOutcome ws l r ws' l'
  every_words_call c = go (number_of c)
    where
      number_of : {turn : Turn} → WordsCall p ws l r ws' l' turn → (r ≡ 0) ⊎ ((why : Located) × (r ≡ said why))
      number_of (settings_called c _) = numbered _ _ ws ws' (held ws) refl c.answer
      number_of (frequency_called c) = numbered _ _ ws ws' (held ws) refl c.answer
      number_of (unit_called c) = numbered _ _ ws ws' (held ws) refl c.answer
      number_of (requirement_called c _) = numbered _ _ ws ws' (held ws) refl c.answer

      go : (r ≡ 0) ⊎ ((why : Located) × (r ≡ said why)) → WordsOutcome ws l r ws' l'
      go (inl e) = takes e
      go (inr (why, e)) = let same = refused_call c (omega (arith, e, said_some why)) in refuses why e same.0 same.1

-- ---- runs of units
pub run_apart : (place : ℕ) (why : Refusal) → place ≤ most_units + 1 → Apart (in_run place why)
run_apart place why few = told_apart (in_run place why) (omega arith)

pub every_run : (t : Tally) (run : List ℕ) (l : Lent) → OneRun t run l
every_run t run l =
    let promise : RunPromise t run l (run_taken t run l).step (run_taken t run l).lent = record { reply = refl; lent = refl } in
    record { reply = _; lists = _; promised = promise; only = λ p. run_only p promise; outcome = run_outcome t run l promise }

none_added : {ws ws' : List ℕ} → ws' ≡ ws → words_added ws ws' ≡ 0
none_added {ws} {ws'} f = let same : get_or ws' 2 0 ≡ get_or ws 2 0 = ap (λ (us : List ℕ). get_or us 2 0) f in omega (arith, same)

module _ {ws run : List ℕ} {l : Lent} {r : ℕ} {ws' : List ℕ} {l' : Lent} where
  -- on words that hold a tally
  held_run : (t : Tally) → held ws ≡ taken t → RunStepped t ws run l r ws' l' → WordsRunOutcome ws run l r ws' l'
  held_run t h s = go (run_outcome t run l s.promise)
    where
      counts : t.records ≡ get_or ws 2 0
      counts = ap (λ (t : Tally). t.records) (held_is ws t h).0

      grown : (k : ℕ) → s.step.tally.records ≡ t.records + k → words_added ws ws' ≡ k
      grown k e = let now : get_or ws' 2 0 ≡ s.step.tally.records = ap (λ (us : List ℕ). get_or us 2 0) s.words in omega (arith, now, e, counts)

      go : RunOutcome t run l s.step l' → WordsRunOutcome ws run l r ws' l'
      go (takes_all w so_far e) = takes (s.reply ∙ ap taking_said e) (grown (records_in run) (singly_counts so_far))
      go (stops_behind k why w inside so_far call e) =
          refuses (k + 1) why (s.reply ∙ ap taking_said e) (omega (arith, singly_few so_far)) (omega (arith, grown k (singly_counts so_far)))
          (λ few. let first = singly_none so_far (omega arith) in (as_it_came t h s first.0, first.1))
      go (is_ragged w e f) =
          let same : s.step.tally ≡ t = ap (λ (r : Step). r.tally) e in
          let said_so = ap (λ (r : Step). taking_said r.taking) e in
          refuses 0 EndsEarly (s.reply ∙ said_so) (omega arith)
          (omega (arith, grown 0 (omega (arith, ap (λ (t : Tally). t.records) same)))) (λ few. (as_it_came t h s same, f))

  pub every_words_run : UnitsCalled ws run l r ws' l' → WordsRunOutcome ws run l r ws' l'
  every_words_run c = go (held ws) refl
    where
      unheld : (x : Refusal) (w none : Bool) → eqb (length run) 0 ≡ none → r ≡ cond w (cond none 0 (said (in_run 1 x))) (said (in_run 0 EndsEarly)) →
          ws' ≡ ws → l' ≡ l → WordsRunOutcome ws run l r ws' l'
      unheld x true true z e f g = takes e (omega (arith, none_added f, eqb-true (length run) 0 z))
      unheld x true false z e f g = refuses 1 x e (omega arith) (none_added f) (λ few. (f, g))
      unheld x false none z e f g = refuses 0 EndsEarly e (omega arith) (none_added f) (λ few. (f, g))

      go : (y : Reply Tally) → held ws ≡ y → WordsRunOutcome ws run l r ws' l'
      go (taken t) h = held_run t h (run_steps h c)
      go (refused x) h = unheld x (whole run) (eqb (length run) 0) refl (rw h at c.reply) (rw h at c.tally) (rw h at c.lent)

  -- 'a run that is not a whole number of records is 1, before anything else'
  pub ragged_run_refused : whole run ≡ false → UnitsCalled ws run l r ws' l' → (r ≡ number EndsEarly) × (ws' ≡ ws) × (l' ≡ l)
  ragged_run_refused ragged c = go (held ws) refl
    where
      go : (y : Reply Tally) → held ws ≡ y → (r ≡ number EndsEarly) × (ws' ≡ ws) × (l' ≡ l)
      go (taken t) h =
          let s = run_steps h c in
          let Stops-first = ragged_run t run l ragged in
          let step = s.promise.reply ∙ ap (λ (x : Ran). x.step) Stops-first in
          (s.reply ∙ ap told step, as_it_came t h s (ap (λ (x : Step). x.tally) step), s.promise.lent ∙ ap (λ (x : Ran). x.lent) Stops-first)
      go (refused x) h = (rw (h, ragged) at c.reply, rw h at c.tally, rw h at c.lent)

-- 'an empty run changes nothing and is accepted', whatever the words and the lists are
pub empty_run_taken : {ws : List ℕ} {l : Lent} {r : ℕ} {ws' : List ℕ} {l' : Lent} → UnitsCalled ws [] l r ws' l' → (r ≡ 0) × (ws' ≡ ws) × (l' ≡ l)
empty_run_taken {ws} {l} {r} {ws'} {l'} c = go (held ws) refl
  where
    go : (y : Reply Tally) → held ws ≡ y → (r ≡ 0) × (ws' ≡ ws) × (l' ≡ l)
    go (taken t) h =
        let s = run_steps h c in
        let step = s.promise.reply ∙ ap (λ (x : Ran). x.step) (empty_run t l) in
        (s.reply ∙ ap told step, as_it_came t h s (ap (λ (x : Step). x.tally) step), s.promise.lent ∙ ap (λ (x : Ran). x.lent) (empty_run t l))
    go (refused x) h = (rw h at c.reply, rw h at c.tally, rw h at c.lent)

pub every_book :
    {bs head : List ℕ} {part : ℕ → List ℕ} (l₀ : Lent) → Hands bs head part →
    (contents bs ≡ taken (counts_in bs) → Long l₀ (counts_in bs).units) → ((i : ℕ) → get_or bs i 0 < 256) → BookOutcome bs head part l₀
every_book {bs} {head} {part} l₀ hands lists_long bytes = go (book bs) refl
  where
    go : (x : LocatedReply Book) → book bs ≡ x → BookOutcome bs head part l₀
    go (taken b) e = takes b e (book_way l₀ hands lists_long bytes b e)
    go (refused why) e = refuses why e (book_refused l₀ hands lists_long bytes e)

-- 'a call at the wrong time': words of a stored tally over lists that a chain of C calls has begun to fill with a book of another interval number, from its
-- first frequency record on. Nothing is taken or answered by them
pub other_book :
    {head : List ℕ} {part : ℕ → List ℕ} {l₀ : Lent} {ws₀ : List ℕ} {n : ℕ} {ws : List ℕ} {l : Lent} (d : WordsChain head part l₀ ws₀ n ws l) → 1 < n →
    {stored : List ℕ} {t : Tally} → held stored ≡ taken t → (t.interval ≡ (words_chain d).tally.interval → ⊥) → ToldApart stored t l
other_book d begun {stored} {t} h differs = other.told_apart stored t _ h (mixed_told (words_chain d).chain begun t differs)
