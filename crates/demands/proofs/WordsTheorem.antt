-- THE CHAIN OVER WORDS: a chain of C calls is a chain of the calls below (crates/chain, Chain); its words are those of the chain's tally, and words past the
-- eighth stay. And the other way round.
use Rattle.std.specs.Prelude.{Result, Ok, ⊤}
use mathlib.Core.Path.{◌≡◌, refl, sym, ◌∙◌, ap, ap₂, subst, subst⁻¹}
use mathlib.Core.Bool.{Bool, true, false}
use mathlib.Core.List.{List}
use Prim.Native.Nat.{ℕ, zero, suc, ◌+◌, ◌≤◌, ◌<◌}
use native.Mathlib.Omega.{arith}
use lib.Dec.{leb}
use lib.ListN.{length}
use borrow.Author.Tests.{leb-true}
use Rattle.rules.specs.declared.Located.{Located}
use Rattle.rules.specs.declared.Refusal.TheVariants.{TooShort}
use Rattle.rules.specs.Quantities.{points}
use Rattle.rules.specs.Refusals.{Reply, taken, refused, located, at, unless}
use Rattle.rules.specs.Book.{Settings}
use Rattle.rules.specs.Contents.{Counts, contents}
use Rattle.laws.proofs.LimitsLaws.{settings_fit}
use Rattle.interval.specs.declared.Tally.{Tally}
use Rattle.interval.specs.declared.Step.{Step}
use Rattle.interval.specs.Tally.{settings_of}
use Rattle.interval.specs.Lent.{Lent}
use Rattle.interval.specs.Calls.{fresh, opened, left}
use Rattle.interval.specs.Promises.{ContentsPromise}
use Rattle.chain.specs.Taken.{counts_in}
use Rattle.chain.proofs.Taken.{contents_is}
use Rattle.chain.specs.Chain as below
use Rattle.chain.specs.Chain.{Taken, Refused, Chain, Means, the_settings}
use Rattle.chain.proofs.ChainTheorem.{chain}
use Rattle.chain.specs.Runs.{HandsRun, added}
use Rattle.chain.proofs.Runs.{run_chain}
use Rattle.dullavane.specs.Words.{tally_words, with_words, held, Narrow, reply_said, taking_said, told, words_left, words_after}
use Rattle.dullavane.specs.Called.{Stepped}
use Rattle.dullavane.specs.Promises.{contents_reply, ContentsCalled}
use Rattle.dullavane.proofs.Promises.{contents_opened}
use Rattle.dullavane.specs.Runs.{UnitsCalled}
use Rattle.demands.specs.WordsChain.{Turn, WordsCall, WordsChain, begun, took, took_run, refused_record, refused_contents, words_added}
use Rattle.dullavane.proofs.WordsLaws.{said_some}
use Rattle.demands.proofs.WordsLaws.{told_taken, words_hold}
use Rattle.demands.specs.WordsCalls.{StepCall, settings_step, frequency_step, unit_step, requirement_step}
use Rattle.demands.proofs.Tallied.{Tallied}
use Rattle.demands.proofs.WordsRuns.{run_steps}
use Rattle.demands.proofs.WordsCalls.{refused_call, call_steps, step_calls, refused_stays}

-- ---- the tally of a chain is within its widths, so its words hold it
record Small (s : Settings) : Type 0 where
  smoothing : s.smoothing ≤ 10_000
  limit : s.limit ≤ points
  percent : s.percent ≤ 100

module _ {head : List ℕ} {part : ℕ → List ℕ} {l₀ : Lent} {n : ℕ} {t : Tally} {l : Lent} (d : Chain head part l₀ n t l) (ws : List ℕ) where
  w : Means head part l₀ n t l
  w = chain d

  chain_settings : (m : ℕ) → m ≡ n → Small (settings_of t)
  chain_settings zero e = rw (w.before (sym e)) (record { smoothing = omega arith; limit = omega arith; percent = omega arith })
  chain_settings (suc m) e =
      let s = settings_fit (part 0) (the_settings part) ((w.taken_each 0 (omega arith)).as_settings refl) in
      subst⁻¹ Small (w.kept (omega arith)) (record { smoothing = s.smoothing; limit = s.limit; percent = s.percent })

  chain_narrow : Narrow (with_words t ws)
  chain_narrow =
      let few = (contents_is head (counts_in head) w.table).1 in
      let s = chain_settings n refl in
      record {
        units = omega (arith, w.units, few.units);
        requirements = omega (arith, w.requirements, few.requirements);
        records = omega (arith, w.records, w.most, few.units, few.requirements);
        smoothing = omega (arith, s.smoothing);
        limit = omega (arith, s.limit);
        percent = omega (arith, s.percent);
      }

  pub chain_held : held (with_words t ws) ≡ taken t
  chain_held = words_hold t ws chain_narrow

-- ---- the table of contents, taken and refused
record Opens (head ws ws' : List ℕ) : Type 0 where
  tally : Tally
  promise : ContentsPromise head (Ok tally)
  words : ws' ≡ with_words tally ws
  long : tally_words ≤ length ws

contents_taken : {head ws ws' : List ℕ} → ContentsCalled head ws 0 ws' → Opens head ws ws'
contents_taken {head} {ws} {ws'} c = go (leb tally_words (length ws)) (contents head) refl refl c.reply c.tally
  where
    go :
        (x : Bool) (y : Reply Counts) → leb tally_words (length ws) ≡ x → contents head ≡ y → 0 ≡ reply_said (at 0 (unless x TooShort y)) →
        ws' ≡ left (λ c. with_words (fresh c)) (unless x TooShort y) ws → Opens head ws ws'
    go true (taken c) l h e f = record { tally = fresh c; promise = record { reply = ap opened (sym h) }; words = f; long = leb-true _ _ l }
    go true (refused why) l h e f = absurd (omega (arith, said_some (located 0 why)))
    go false y l h e f = absurd (omega arith)

contents_kept : {p ws ws' : List ℕ} {r : ℕ} → ContentsCalled p ws r ws' → 0 < r → ws' ≡ ws
contents_kept {p} {ws} {ws'} {r} c h = go (contents_reply p ws) c.reply c.tally
  where
    go : (y : Reply Counts) → r ≡ reply_said (at 0 y) → ws' ≡ left (λ c. with_words (fresh c)) y ws → ws' ≡ ws
    go (taken c) e f = absurd (omega arith)
    go (refused why) e f = f

-- ---- THE THEOREM: the tally that a chain of C calls has come to, by a chain of the calls below (Tallied)
module _ {head : List ℕ} {part : ℕ → List ℕ} {l₀ : Lent} where
  one_more :
      {n : ℕ} {t : Tally} {l l' : Lent} {s : Step} {turn : Turn} →
      Chain head part l₀ n t l → StepCall (part n) t l s l' turn → Taken s → Chain head part l₀ (suc n) s.tally l'
  one_more d (settings_step p e) h = rw e (below.took_settings d p h)
  one_more d (frequency_step p) h = below.took_frequency d p h
  one_more d (unit_step p) h = below.took_unit d p h
  one_more d (requirement_step p e) h = rw e (below.took_requirement d p h)

  module _ {ws₀ : List ℕ} where
    tallied :
        {n : ℕ} {t : Tally} {ws : List ℕ} {l : Lent} →
        Chain head part l₀ n t l → ws ≡ with_words t ws₀ → tally_words ≤ length ws₀ → Tallied head part l₀ ws₀ n ws l
    tallied {t = t} d e long = record { tally = t; chain = d; words = e; held = ap held e ∙ chain_held d ws₀; long = long }

    next :
        {n : ℕ} {ws ws' : List ℕ} {l l' : Lent} {turn : Turn} →
        Tallied head part l₀ ws₀ n ws l → WordsCall (part n) ws l 0 ws' l' turn → Tallied head part l₀ ws₀ (suc n) ws' l'
    next {ws = ws} x call =
        let s = call_steps x.held call in
        let took = told_taken s.step (sym s.reply) in
        let t = s.step.tally in
        let words = s.words ∙ ap (λ (k : Result ⊤ Located). words_left k t ws) took ∙ ap (with_words t) x.words in
        tallied (one_more x.chain s.call took) words x.long

    next_run :
        {n r : ℕ} {run ws ws' : List ℕ} {l l' : Lent} → Tallied head part l₀ ws₀ n ws l → UnitsCalled ws run l r ws' l' →
        HandsRun part n (words_added ws ws') run → Tallied head part l₀ ws₀ (n + words_added ws ws') ws' l'
    next_run {n} {run = run} {ws} {ws'} {l} {l'} x c hands =
        let s = run_steps x.held c in
        let t = s.step.tally in
        let grown : words_added ws ws' ≡ added x.tally t = ap₂ (λ (us vs : List ℕ). words_added us vs) x.words s.words in
        let chain = run_chain x.chain s.promise (subst (λ (k : ℕ). HandsRun part n k run) grown hands) in
        tallied (subst⁻¹ (λ (k : ℕ). Chain head part l₀ (n + k) t l') grown chain) (s.words ∙ ap (with_words t) x.words) x.long

    pub words_chain : {n : ℕ} {ws : List ℕ} {l : Lent} → WordsChain head part l₀ ws₀ n ws l → Tallied head part l₀ ws₀ n ws l
    words_chain (begun c) = let x = contents_taken c in tallied (below.begun x.promise) x.words x.long
    words_chain (took d c) = next (words_chain d) c
    words_chain (refused_record d c h) = let e = refused_call c h in rw (e.0, e.1) (words_chain d)
    words_chain (took_run d c hands) = next_run (words_chain d) c hands
    words_chain (refused_contents d c h) = rw (contents_kept c h) (words_chain d)

-- ---- the next call in a chain, of any bytes: it is the call below on the chain's tally, and that one is it; its number is 0 or the refusal's
module _ {head : List ℕ} {part : ℕ → List ℕ} {l₀ : Lent} {ws₀ : List ℕ} {n : ℕ} {ws : List ℕ} {l : Lent} (d : WordsChain head part l₀ ws₀ n ws l) where
  pub next_steps :
      {p ws' : List ℕ} {r : ℕ} {l' : Lent} {turn : Turn} → WordsCall p ws l r ws' l' turn →
      Stepped told words_after (λ s. StepCall p (words_chain d).tally l s l' turn) ws r ws'
  next_steps c = call_steps (words_chain d).held c

  pub next_calls :
      {p : List ℕ} {s : Step} {l' : Lent} {turn : Turn} → StepCall p (words_chain d).tally l s l' turn →
      WordsCall p ws l (told s) (words_after s ws) l' turn
  next_calls c = step_calls (words_chain d).held c (refl, refl)

-- ---- and the other way round: wherever the calls below come, the C calls come with eight words or more; a refused call is refused with its number
module _ (head : List ℕ) (part : ℕ → List ℕ) (l₀ : Lent) (ws₀ : List ℕ) (long : tally_words ≤ length ws₀) where
  abbrev With : ℕ → Tally → Lent → Type 0
  With n t l = WordsChain head part l₀ ws₀ n (with_words t ws₀) l

  goes_on :
      {n : ℕ} {t : Tally} {l l' : Lent} {s : Step} {turn : Turn} →
      Chain head part l₀ n t l → StepCall (part n) t l s l' turn → Taken s → With n t l → With (suc n) s.tally l'
  goes_on {t = t} {s = s} d step h so_far =
      let words = ap (λ (k : Result ⊤ Located). words_left k s.tally (with_words t ws₀)) h in
      took so_far (step_calls (chain_held d ws₀) step (sym (ap taking_said h), sym words))

  stays :
      {n : ℕ} {t : Tally} {l l' : Lent} {s : Step} {turn : Turn} {p : List ℕ} {why : Located} →
      Chain head part l₀ n t l → StepCall p t l s l' turn → Refused s why → With n t l → With n s.tally l'
  stays {t = t} {s = s} {why = why} d step h so_far =
      let words = ap (λ (k : Result ⊤ Located). words_left k s.tally (with_words t ws₀)) h in
      rw (refused_stays step h) (refused_record so_far (step_calls (chain_held d ws₀) step (sym (ap taking_said h), sym words)) (said_some why))

  pub chain_words : {n : ℕ} {t : Tally} {l : Lent} → Chain head part l₀ n t l → WordsChain head part l₀ ws₀ n (with_words t ws₀) l
  chain_words (below.begun {t} p) = begun (contents_opened head ws₀ long (Ok t) p.reply refl refl)
  chain_words (below.took_settings d p h) = goes_on d (settings_step p refl) h (chain_words d)
  chain_words (below.took_frequency d p h) = goes_on d (frequency_step p) h (chain_words d)
  chain_words (below.took_unit d p h) = goes_on d (unit_step p) h (chain_words d)
  chain_words (below.took_requirement d p h) = goes_on d (requirement_step p refl) h (chain_words d)
  chain_words (below.refused_settings d p h) = stays d (settings_step p refl) h (chain_words d)
  chain_words (below.refused_frequency d p h) = stays d (frequency_step p) h (chain_words d)
  chain_words (below.refused_unit d p h) = stays d (unit_step p) h (chain_words d)
  chain_words (below.refused_requirement d p h) = stays d (requirement_step p refl) h (chain_words d)
