-- Laws of the definitions in specs/Run.antt: a run goes on by a unit call, and any two answers that its promise allows are equal.
use Rattle.std.specs.Prelude.{Ok, Err}
use mathlib.Core.Path.{◌≡◌, refl, sym, ◌∙◌, ap, ap₂}
use mathlib.Core.Bool.{Bool, true, false}
use mathlib.Core.List.{List, []}
use Prim.Native.Nat.{ℕ, suc, ◌+◌, ◌*◌, ◌-◌, ◌%◌, ◌<◌}
use native.Mathlib.Omega.{arith}
use lib.ListN.{length, drop}
use borrow.Author.Tests.{eqb-true}
use Rattle.rules.specs.declared.Refusal.{Refusal}
use Rattle.rules.specs.declared.Refusal.TheVariants.{EndsEarly}
use Rattle.rules.specs.declared.Located.{Located}
use Rattle.rules.specs.Refusals.{Reply, taken, refused, located, at}
use Rattle.rules.specs.Book.{Unit}
use Rattle.rules.specs.Contents.{unit_size}
use Rattle.interval.specs.declared.Tally.{Tally}
use Rattle.interval.specs.declared.Step.{Step}
use Rattle.interval.specs.Tally.{next_place}
use Rattle.interval.specs.Lent.{Lent}
use Rattle.interval.specs.Calls.{left, stopped_step, taken_step, unit_reply, unit_counted}
use Rattle.interval.specs.Promises.{UnitPromise, unit_kept}
use Rattle.interval.specs.Run.{Ran, RunPromise, goes_on, in_run, ran, records_in, run_taken, stops, whole}
use Rattle.interval.proofs.Calls.{step_taken, step_refused, left_refused}

pub run_only :
    {t : Tally} {run : List ℕ} {l : Lent} {r r₂ : Step} {l' l₂ : Lent} → RunPromise t run l r l' → RunPromise t run l r₂ l₂ → (r ≡ r₂) × (l' ≡ l₂)
run_only a b = (a.reply ∙ sym b.reply, a.lent ∙ sym b.lent)

-- of a whole run nothing is left behind its records
pub none_left : (run : List ℕ) → whole run ≡ true → unit_size * records_in run ≡ length run
none_left run e = let even : length run % unit_size ≡ 0 = eqb-true (length run % unit_size) 0 e in omega (arith, even)

-- a whole run is taken from its first record on, and an empty one changes nothing
pub whole_run : (t : Tally) (run : List ℕ) (l : Lent) → whole run ≡ true → run_taken t run l ≡ ran (records_in run) 1 t run l
unfolding run_taken
whole_run t run l e = rw e

pub ragged_run : (t : Tally) (run : List ℕ) (l : Lent) → whole run ≡ false → run_taken t run l ≡ stops 0 t l EndsEarly
unfolding run_taken
ragged_run t run l e = rw e

pub empty_run : (t : Tally) (l : Lent) → run_taken t [] l ≡ record { step = taken_step t; lent = l }
unfolding run_taken ran
empty_run t l = refl

-- and one whose first record is refused stops there
pub first_refused :
    (t : Tally) (run : List ℕ) (l : Lent) {x : Refusal} → whole run ≡ true → 0 < records_in run → unit_reply t run l ≡ refused x →
    run_taken t run l ≡ record { step = stopped_step t (in_run 1 x); lent = l }
unfolding ran
first_refused t run l w some e =
    let one : records_in run ≡ suc (records_in run - 1) = omega arith in
    whole_run t run l w ∙ ap (λ (n : ℕ). ran n 1 t run l) one ∙ ap (goes_on _ (stops 1 t l)) e

pub is_whole_only : (run : List ℕ) {r r' : Bool} → r ≡ whole run → r' ≡ whole run → r ≡ r'
is_whole_only run a b = a ∙ sym b

-- what a unit call that took its record has done
pub record Added (t : Tally) (part : List ℕ) (l : Lent) (r : Step) (l' : Lent) : Type 0 where
  pub unit : Unit
  pub is : unit_reply t part l ≡ taken unit
  pub tally : r.tally ≡ unit_counted t unit
  pub lent : l' ≡ unit_kept t unit l

module _ {t : Tally} {part : List ℕ} {l : Lent} {r : Step} {l' : Lent} (p : UnitPromise t part l r l') where
  pub was_added : r.taking ≡ Ok tt → Added t part l r l'
  was_added h =
      let s = step_taken (unit_counted t) t (unit_reply t part l) p.reply h in
      record { unit = s.0; is = s.1; tally = s.2; lent = p.lent ∙ ap (λ (y : Reply Unit). left (unit_kept t) y l) s.1 }

  -- the run goes on behind a record that was taken, with the tally and the lists that its call has left
  pub goes_behind :
      (rest place : ℕ) → r.taking ≡ Ok tt → ran (suc rest) place t part l ≡ ran rest (place + 1) r.tally (drop unit_size part) l'
  unfolding ran
  goes_behind rest place h =
      let a = was_added h in
      let on : Unit → Ran = λ u. ran rest (place + 1) (unit_counted t u) (drop unit_size part) (unit_kept t u l) in
      ap (goes_on on (stops place t l)) a.is
      ∙ sym (ap₂ (λ (t' : Tally) (m : Lent). ran rest (place + 1) t' (drop unit_size part) m) a.tally a.lent)

  -- and stops at one that was refused, whose call has left them as they came
  pub stops_at : {why : Located} (rest place : ℕ) → r.taking ≡ Err why → ran (suc rest) place t part l ≡ stops place t l' why.refusal
  unfolding ran
  stops_at {why} rest place h =
      let s = step_refused (unit_counted t) t (unit_reply t part l) p.reply h in
      let lent = p.lent ∙ left_refused (unit_kept t) (next_place t) (unit_reply t part l) l s.0 in
      go _ (unit_reply t part l) s.0 ∙ ap (λ (m : Lent). stops place t m why.refusal) (sym lent)
    where
      go : (on : Unit → Ran) (y : Reply Unit) → at (next_place t) y ≡ refused why → goes_on on (stops place t l) y ≡ stops place t l why.refusal
      go on (taken u) e = let z : ◌≡◌ {A = ℕ} 0 1 = cc in absurd (omega arith)
      go on (refused x) e = let f : located (next_place t) x ≡ why = cc in ap (λ (w : Located). stops place t l w.refusal) f
