-- A run of unit records in one call (02, R-6): what the unit call promises, folded over the records up to the first refused one.
use Rattle.std.specs.Prelude.{◌≡◌, Bool, cond, List, ℕ, zero, suc, ◌+◌, ◌/◌, ◌%◌, eqb, length, drop}
use Rattle.rules.specs.declared.Refusal.{Refusal}
use Rattle.rules.specs.declared.Refusal.TheVariants.{EndsEarly}
use Rattle.rules.specs.declared.Located.{Located}
use Rattle.rules.specs.Refusals.{Reply, taken, refused}
use Rattle.rules.specs.Book.{Unit}
use Rattle.rules.specs.Contents.{unit_size}
use Rattle.interval.specs.declared.Tally.{Tally}
use Rattle.interval.specs.declared.Step.{Step}
use Rattle.interval.specs.Lent.{Lent}
use Rattle.interval.specs.Calls.{taken_step, stopped_step, unit_reply, unit_counted}
use Rattle.interval.specs.Promises.{unit_kept}

-- what a run comes to: the call's answer, and what is lent as it leaves it
pub record Ran : Type 0 where
  pub step : Step
  pub lent : Lent

-- in a run every refusal has its place in the run, 11 and 12 too
abbrev pub in_run : ℕ → Refusal → Located
in_run place r = record { refusal = r; place = place }

-- a refused record leaves tally and lists as the records before it have left them
abbrev pub stops : ℕ → Tally → Lent → Refusal → Ran
stops place t l r = record { step = stopped_step t (in_run place r); lent = l }

abbrev pub goes_on : (Unit → Ran) → (Refusal → Ran) → Reply Unit → Ran
goes_on on stop (taken u) = on u
goes_on on stop (refused r) = stop r

-- so many records are left of a run, the first of them at this place
unfoldable pub ran : ℕ → ℕ → Tally → List ℕ → Lent → Ran
ran zero place t run l = record { step = taken_step t; lent = l }
ran (suc left) place t run l =
    goes_on (λ u. ran left (place + 1) (unit_counted t u) (drop unit_size run) (unit_kept t u l)) (stops place t l) (unit_reply t run l)

-- a run that is not a whole number of records is refused before anything else, and none was added
abbrev pub whole : List ℕ → Bool
whole run = eqb (length run % unit_size) 0

abbrev pub records_in : List ℕ → ℕ
records_in run = length run / unit_size

unfoldable pub run_taken : Tally → List ℕ → Lent → Ran
run_taken t run l = cond (whole run) (ran (records_in run) 1 t run l) (stops 0 t l EndsEarly)

-- ---- the call's promise, completely: its reply, the tally and all that is lent
pub record RunPromise (t : Tally) (run : List ℕ) (l : Lent) (r : Step) (l' : Lent) : Type 0 where
  pub reply : r ≡ (run_taken t run l).step
  pub lent : l' ≡ (run_taken t run l).lent
