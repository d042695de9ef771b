-- MIXED: from a book's first frequency record on, a tally of another interval number is told over this book's lists: no unit is taken and nothing is answered
-- by it. Region 0's figures keep the number of the book that was begun last.
use mathlib.Core.Path.{◌≡◌, refl, sym, ◌∙◌, ap}
use mathlib.Core.Bool.{Bool, true, false, ◌&&◌}
use mathlib.Core.List.{List}
use Prim.Native.Nat.{ℕ, ◌+◌, ◌<◌}
use native.Mathlib.Omega.{arith}
use lib.IntN.{pos}
use Rattle.rules.specs.declared.Refusal.TheVariants.{WrongState}
use Rattle.rules.specs.Refusals.{Reply, refused, unless}
use Rattle.rules.specs.Book.{Settings, Unit}
use Rattle.interval.specs.declared.Tally.{Tally}
use Rattle.interval.specs.declared.Step.{Step}
use Rattle.interval.specs.Tally.{in_range, unit_turn, units_taken}
use Rattle.interval.specs.Lent.{Lent, of_interval}
use Rattle.interval.specs.Calls.{refused_step, stepped, left, unit_long, unit_reply, unit_counted}
use Rattle.interval.specs.Promises.{UnitPromise, unit_kept}
use Rattle.kept.specs.Range.{series_fine, figures_fine, kept_fine}
use Rattle.chain.specs.Chain.{Chain}
use Rattle.chain.specs.Mixed.{Told}
use Rattle.chain.proofs.ChainLaws.{of_interval_none}
use Rattle.chain.proofs.ChainTheorem.{chain}
use Rattle.chain.proofs.ChainValues.{figures_are}

-- where the figures are not of its number, all the rest follows, whatever else the tally and the lists hold
module _ (t : Tally) (l : Lent) (other : of_interval t.interval l.figures ≡ false) where
  unit_told : (p : List ℕ) → unit_long (units_taken t + 1) l ≡ true → unit_reply t p l ≡ refused WrongState
  unfolding unit_reply
  unit_told p long = rw (long, other) (either (in_range t && unit_turn t))
    where
      either : (turn : Bool) → ◌≡◌ {A = Reply Unit} (unless turn WrongState (refused WrongState)) (refused WrongState)
      either true = refl
      either false = refl

  answer_told : kept_fine t l ≡ false
  unfolding figures_fine
  answer_told = rw other (neither (series_fine t l))
    where
      neither : (s : Bool) → s && false ≡ false
      neither true = refl
      neither false = refl

  told : Told t l
  told = record { figures = other; unit = unit_told; answer = answer_told }

pub mixed_told :
    {head : List ℕ} {part : ℕ → List ℕ} {l₀ : Lent} {n : ℕ} {t : Tally} {l : Lent} → Chain head part l₀ n t l → 1 < n →
    (other : Tally) → (other.interval ≡ t.interval → ⊥) → Told other l
mixed_told {l = l} d begun other differs =
    let own = figures_are d 0 (omega arith) 0 (omega arith) ∙ ap (λ (s : Settings). pos s.interval) (sym ((chain d).kept (omega arith))) in
    told other l (of_interval_none other.interval l.figures 0 _ (omega arith) own differs)

-- so the call for a unit refuses it and leaves all as it came
pub told_unit :
    {t : Tally} {p : List ℕ} {l l' : Lent} {r : Step} → Told t l → unit_long (units_taken t + 1) l ≡ true → UnitPromise t p l r l' →
    (r ≡ refused_step t WrongState) × (l' ≡ l)
told_unit {t} {p} {l} w long c =
    let e = w.unit p long in
    (c.reply ∙ ap (λ (x : Reply Unit). stepped (unit_counted t) x t) e, c.lent ∙ ap (λ (x : Reply Unit). left (unit_kept t) x l) e)
