-- Laws of the C call that takes a run of units: on words that hold a tally it is the call below on that tally, its step told as a number and as words.
use mathlib.Core.Path.{◌≡◌, refl, ◌∙◌, ap}
use mathlib.Core.Bool.{◌&&◌}
use mathlib.Core.List.{List}
use Prim.Native.Nat.{ℕ, ◌+◌, ◌*◌, ◌≤◌, ◌<◌}
use native.Mathlib.Decide.{dec_lt}
use native.Mathlib.Omega.{arith}
use lib.Dec.{leb, ltb}
use lib.ListN.{drop}
use borrow.Author.Tests.{leb-true, ltb-true}
use Rattle.integers.specs.Sums.{both}
use Rattle.rules.specs.declared.Refusal.TheVariants.{WrongState}
use Rattle.rules.specs.Quantities.{most_units}
use Rattle.rules.specs.Refusals.{taken}
use Rattle.rules.specs.Book.{Unit}
use Rattle.rules.specs.Contents.{unit_size}
use Rattle.laws.proofs.LimitsLaws.{passed}
use Rattle.interval.specs.declared.Tally.{Tally}
use Rattle.interval.specs.declared.Step.{Step}
use Rattle.interval.specs.Tally.{before_units, in_range, unit_turn, units_end}
use Rattle.interval.proofs.TallyLaws.{ranged}
use Rattle.interval.specs.Lent.{Lent}
use Rattle.interval.specs.Calls.{unit_reply}
use Rattle.interval.specs.Run.{RunPromise, run_taken}
use Rattle.interval.proofs.RunLaws.{was_added}
use Rattle.chain.specs.Runs.{Singly, none, one_more}
use Rattle.chain.proofs.Runs.{singly_counts, singly_none}
use Rattle.dullavane.specs.Words.{held, told, with_words}
use Rattle.dullavane.specs.Runs.{UnitsCalled}
use Rattle.dullavane.proofs.WordsLaws.{held_is, same_words}

pub record RunStepped (t : Tally) (ws run : List ℕ) (l : Lent) (r : ℕ) (ws' : List ℕ) (l' : Lent) : Type 0 where
  pub step : Step
  pub promise : RunPromise t run l step l'
  pub reply : r ≡ told step
  pub words : ws' ≡ with_words step.tally ws

pub run_steps :
    {t : Tally} {ws run : List ℕ} {l : Lent} {r : ℕ} {ws' : List ℕ} {l' : Lent} → held ws ≡ taken t → UnitsCalled ws run l r ws' l' →
    RunStepped t ws run l r ws' l'
run_steps {t} {ws} {run} {l} h c =
    record {
      step = (run_taken t run l).step;
      promise = record { reply = refl; lent = rw h at c.lent };
      reply = rw h at c.reply;
      words = rw h at c.tally;
    }

-- where the tally is as it came, so are its words
pub as_it_came :
    {ws run : List ℕ} {l : Lent} {r : ℕ} {ws' : List ℕ} {l' : Lent} (t : Tally) → held ws ≡ taken t → (s : RunStepped t ws run l r ws' l') →
    s.step.tally ≡ t → ws' ≡ ws
as_it_came {ws} t h s e =
    let is = held_is ws t h in
    s.words ∙ ap (λ (t : Tally). with_words t ws) (e ∙ is.0) ∙ same_words ws is.1

-- ---- a run adds at most 512 records: it is a unit's turn before the first, and before the last there is still a unit to come
unit_few :
    (t : Tally) (p : List ℕ) (l : Lent) (u : Unit) → unit_reply t p l ≡ taken u → (before_units ≤ t.records) × (t.records < before_units + most_units)
unfolding unit_reply
unit_few t p l u e =
    let turn = both (in_range t) (unit_turn t) (passed (in_range t && unit_turn t) WrongState _ u e).0 in
    let ends = both (leb before_units t.records) (ltb t.records (units_end t)) turn.1 in
    (leb-true _ _ ends.0, omega (arith, ltb-true t.records (units_end t) ends.1, (ranged t turn.0).units))

module _ {run : List ℕ} {t : Tally} {l : Lent} where
  singly_begun : {k : ℕ} {t' : Tally} {l' : Lent} → Singly run t l k t' l' → 0 < k → before_units ≤ t.records
  singly_begun none h = absurd (omega arith)
  singly_begun (one_more {k} {t'} {l'} so_far call h) some = go (dec_lt 0 k) (λ b. singly_begun so_far b)
    where
      go : Dec (0 < k) → (0 < k → before_units ≤ t.records) → before_units ≤ t.records
      go (yes b) earlier = earlier b
      go (no b) earlier =
          let u = was_added call h in
          let same = ap (λ (t : Tally). t.records) (singly_none so_far (omega arith)).0 in
          omega (arith, (unit_few t' (drop (unit_size * k) run) l' u.unit u.is).0, same)

  pub singly_few : {k : ℕ} {t' : Tally} {l' : Lent} → Singly run t l k t' l' → k ≤ most_units
  singly_few none = omega arith
  singly_few (one_more {k} {t'} {l'} so_far call h) =
      let u = was_added call h in
      let begun = singly_begun (one_more so_far call h) (omega arith) in
      omega (arith, begun, singly_counts so_far, (unit_few t' (drop (unit_size * k) run) l' u.unit u.is).1)
