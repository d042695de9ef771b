-- Laws of the definitions in specs/Runs.antt.
use mathlib.Core.Path.{◌≡◌, sym, ◌∙◌, ap}
use mathlib.Core.List.{List}
use Prim.Native.Nat.{ℕ, ◌+◌}
use native.Mathlib.Omega.{arith}
use Rattle.rules.specs.declared.Refusal.{Refusal}
use Rattle.rules.specs.Refusals.{taken, refused, number}
use Rattle.interval.specs.declared.Tally.{Tally}
use Rattle.interval.specs.declared.Step.{Step}
use Rattle.interval.specs.Lent.{Lent}
use Rattle.interval.specs.Run.{in_run, RunPromise}
use Rattle.dullavane.specs.Words.{held, said, told, with_words}
use Rattle.dullavane.specs.Runs.{UnitsCalled, unheld_told}
use Rattle.dullavane.proofs.WordsLaws.{unheld_said}

module _ {ws run : List ℕ} {l : Lent} where
  pub dullavane_units_only :
      {r r₂ : ℕ} {ws' ws₂ : List ℕ} {l' l₂ : Lent} → UnitsCalled ws run l r ws' l' → UnitsCalled ws run l r₂ ws₂ l₂ → (r ≡ r₂) × (ws' ≡ ws₂) × (l' ≡ l₂)
  dullavane_units_only a b = (a.reply ∙ sym b.reply, a.tally ∙ sym b.tally, a.lent ∙ sym b.lent)

  -- ---- by what the words hold
  pub units_called :
      {t : Tally} {s : Step} {r : ℕ} {ws' : List ℕ} {l' : Lent} → held ws ≡ taken t → RunPromise t run l s l' →
      (r ≡ told s) × (ws' ≡ with_words s.tally ws) → UnitsCalled ws run l r ws' l'
  units_called e p a =
      record {
        reply = rw e (a.0 ∙ ap told p.reply);
        tally = rw e (a.1 ∙ ap (λ (s : Step). with_words s.tally ws) p.reply);
        lent = rw e p.lent;
      }

  pub units_unheld :
      {x : Refusal} {first r : ℕ} → held ws ≡ refused x → first ≡ number x → r ≡ unheld_told run (first + 0x1_0000_0000) → UnitsCalled ws run l r ws l
  units_unheld {x} {first} h n told_so =
      let same : first + 0x1_0000_0000 ≡ said (in_run 1 x) = omega (arith, n, unheld_said ws x h) in
      record { reply = rw h (told_so ∙ ap (unheld_told run) same); tally = rw h; lent = rw h }
