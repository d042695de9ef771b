-- Laws of the C calls that take a record: a call that answers a number has changed nothing, and on words that hold a tally a call is the call below on that
-- tally, its step told as a number and as words.
use Rattle.std.specs.Prelude.{Result, ⊤}
use mathlib.Core.Path.{◌≡◌, ap}
use mathlib.Core.List.{List}
use Prim.Native.Nat.{ℕ, ◌+◌, ◌<◌}
use Rattle.rules.specs.declared.Located.{Located}
use Rattle.rules.specs.Refusals.{taken}
use Rattle.rules.specs.Contents.{Counts}
use Rattle.interval.specs.declared.Tally.{Tally}
use Rattle.interval.specs.declared.Step.{Step}
use Rattle.interval.specs.Lent.{Lent}
use Rattle.interval.specs.Calls.{settled, counted, settings_reply, requirement_reply}
use Rattle.interval.proofs.Calls.{step_refused}
use Rattle.chain.specs.Chain.{Refused}
use Rattle.chain.proofs.ChainTheorem.{frequency_stays, unit_stays}
use Rattle.chain.specs.Way.{Call, for_settings, for_frequency, for_unit, for_requirement}
use Rattle.dullavane.specs.Words.{held, told, words_left, words_after}
use Rattle.dullavane.specs.Called.{Stepped, Called}
use Rattle.dullavane.proofs.Called.{was_called}
use Rattle.demands.specs.WordsChain.{Turn, Due, WordsCall, settings_called, frequency_called, unit_called, requirement_called}
use Rattle.demands.proofs.WordsLaws.{told_refused, is_stepped, stepped_by, refused_keeps}
use Rattle.demands.specs.WordsCalls.{StepCall, frequency_step, requirement_step, settings_step, unit_step}

-- ---- laws
-- a refused step leaves the words, and what else is lent if the call below does
module _ (Call : Tally → Step → Type 0) (Kept Same : Type 0) {ws ws' : List ℕ} {r : ℕ} where
  refused_step :
      ((t : Tally) (s : Step) (why : Located) → Call t s → Refused s why → Same) →
      (Kept → Same) →
      Called told words_after Call Kept (held ws) ws r ws' →
      0 < r →
      (ws' ≡ ws) × Same
  refused_step by_call by_keeping c h = refused_keeps told words_after Call Kept Same ws stays by_keeping (held ws) c h
    where
      stays : (t : Tally) (s : Step) → Call t s → 0 < told s → (words_after s ws ≡ ws) × Same
      stays t s call some =
          let no = told_refused s some in
          (ap (λ (x : Result ⊤ Located). words_left x s.tally ws) no.1, by_call t s no.0 call no.1)

module _ {p ws : List ℕ} {l : Lent} {r : ℕ} {ws' : List ℕ} {l' : Lent} where
  -- a call that answers a number leaves words and lists as they came, whatever the words hold
  pub refused_call : {turn : Turn} → WordsCall p ws l r ws' l' turn → 0 < r → (ws' ≡ ws) × (l' ≡ l)
  refused_call (settings_called c e) h = ((refused_step _ _ (Unit {0}) (λ t s why _ _. tt) (λ _. tt) c.answer h).0, e)
  refused_call (frequency_called c) h = refused_step _ _ (l' ≡ l) (λ t s why call no. (frequency_stays call no).1) (λ same. same) c.answer h
  refused_call (unit_called c) h = refused_step _ _ (l' ≡ l) (λ t s why call no. (unit_stays call no).1) (λ same. same) c.answer h
  refused_call (requirement_called c e) h = ((refused_step _ _ (Unit {0}) (λ t s why _ _. tt) (λ _. tt) c.answer h).0, e)

  -- a call on words that hold a tally is the call below on that tally, its step told as a number and as words
  module _ {t : Tally} (h : held ws ≡ taken t) where
    pub call_steps : {turn : Turn} → WordsCall p ws l r ws' l' turn → Stepped told words_after (λ s. StepCall p t l s l' turn) ws r ws'
    call_steps (settings_called c e) = stepped_by (λ s promise. settings_step promise e) (is_stepped _ _ _ _ h c.answer)
    call_steps (frequency_called c) = stepped_by (λ s promise. frequency_step promise) (is_stepped _ _ _ _ h c.answer)
    call_steps (unit_called c) = stepped_by (λ s promise. unit_step promise) (is_stepped _ _ _ _ h c.answer)
    call_steps (requirement_called c e) = stepped_by (λ s promise. requirement_step promise e) (is_stepped _ _ _ _ h c.answer)

-- and the other way round: where the call below takes or refuses a record, so does the C call, with its number
module _ {p : List ℕ} {t : Tally} {l : Lent} {s : Step} {l' : Lent} {ws : List ℕ} {r : ℕ} {ws' : List ℕ} (h : held ws ≡ taken t) where
  pub step_calls : {turn : Turn} → StepCall p t l s l' turn → (r ≡ told s) × (ws' ≡ words_after s ws) → WordsCall p ws l r ws' l' turn
  step_calls (settings_step c e) tells = settings_called (record { answer = was_called told words_after _ _ ws h c tells }) e
  step_calls (frequency_step c) tells = frequency_called (record { answer = was_called told words_after _ _ ws h c tells })
  step_calls (unit_step c) tells = unit_called (record { answer = was_called told words_after _ _ ws h c tells })
  step_calls (requirement_step c e) tells = requirement_called (record { answer = was_called told words_after _ _ ws h c tells }) e

-- a refused step hands the tally back as it came
pub refused_stays :
    {p : List ℕ} {t : Tally} {l : Lent} {s : Step} {l' : Lent} {turn : Turn} {why : Located} → StepCall p t l s l' turn → Refused s why → s.tally ≡ t
refused_stays {p} {t} (settings_step c e) h = (step_refused (settled t) t (settings_reply t p) c.reply h).1
refused_stays (frequency_step c) h = (frequency_stays c h).0
refused_stays (unit_step c) h = (unit_stays c h).0
refused_stays {p} {t} (requirement_step c e) h = (step_refused (λ q. counted (q.number + 1) t) t (requirement_reply t p) c.reply h).1

-- ---- the call whose turn it is, as a chain's way knows it (crates/chain, Way)
module _ {c : Counts} {p : List ℕ} {n : ℕ} {t : Tally} {l : Lent} {s : Step} {l' : Lent} where
  pub due_call : {turn : Turn} → Due c n turn → StepCall p t l s l' turn → Call c p n t l s l'
  due_call h (settings_step w e) = for_settings h w e
  due_call h (frequency_step w) = for_frequency h.0 h.1 w
  due_call h (unit_step w) = for_unit h.0 h.1 w
  due_call h (requirement_step w e) = for_requirement h.0 h.1 w e
