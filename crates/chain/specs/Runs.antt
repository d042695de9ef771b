-- A run of units (02, R-6) is single calls, one after the other. Over what the calls promise, not over their code.
use Rattle.std.specs.Prelude.{◌≡◌, true, false, List, ℕ, suc, ◌+◌, ◌*◌, ◌-◌, ◌≤◌, ◌<◌, drop}
use Rattle.rules.specs.declared.Refusal.{Refusal}
use Rattle.rules.specs.declared.Refusal.TheVariants.{EndsEarly}
use Rattle.rules.specs.Contents.{unit_size}
use Rattle.interval.specs.declared.Tally.{Tally}
use Rattle.interval.specs.declared.Step.{Step}
use Rattle.interval.specs.Tally.{before_units}
use Rattle.interval.specs.Lent.{Lent}
use Rattle.interval.specs.Calls.{stopped_step, refused_step}
use Rattle.interval.specs.Promises.{UnitPromise}
use Rattle.interval.specs.Run.{in_run, records_in, whole}
use Rattle.chain.specs.Chain.{Taken, Refused}
use Rattle.chain.specs.Alike.{Alike}

-- ---- k records of a run were taken by single calls, one at a time, from the tally t and the lists l on
module _ (run : List ℕ) (t : Tally) (l : Lent) where
  pub data Singly : ℕ → Tally → Lent → Type 0 where
    none : Singly 0 t l
    one_more :
        {k : ℕ} {t' : Tally} {l' l₂ : Lent} {s : Step} → Singly k t' l' → UnitPromise t' (drop (unit_size * k) run) l' s l₂ → Taken s →
        Singly (suc k) s.tally l₂

-- ---- what the call that takes a run comes to, with any tally, any bytes and any lists
pub data RunOutcome (t : Tally) (run : List ℕ) (l : Lent) (r : Step) (l' : Lent) : Type 0 where
  -- every record was taken
  takes_all : whole run ≡ true → Singly run t l (records_in run) r.tally l' → Taken r → RunOutcome t run l r l'
  -- the record behind the first k was refused, as a single call refuses it there; they stay added, and the reply names the refused one's place in the run
  stops_behind :
      (k : ℕ) (why : Refusal) → whole run ≡ true → k < records_in run → Singly run t l k r.tally l' →
      UnitPromise r.tally (drop (unit_size * k) run) l' (refused_step r.tally why) l' → Refused r (in_run (k + 1) why) → RunOutcome t run l r l'
  -- it is not a whole number of records, and nothing has changed
  is_ragged : whole run ≡ false → r ≡ stopped_step t (in_run 0 EndsEarly) → l' ≡ l → RunOutcome t run l r l'

-- ---- the first k records of a run are those that the parts of a chain start with, from record n on
pub record HandsRun (part : ℕ → List ℕ) (n k : ℕ) (run : List ℕ) : Type 0 where
  pub each : (i : ℕ) → i < k → Alike unit_size (drop (unit_size * i) run) (part (n + i))

-- a whole run from record n on, a unit's, of which the first k records are those of the parts
pub record RunFrom (part : ℕ → List ℕ) (n k : ℕ) (run : List ℕ) : Type 0 where
  pub is_whole : whole run ≡ true
  pub first : before_units ≤ n
  pub hands : HandsRun part n k run

-- how many records a call has added: the tally counts them
abbrev pub added : Tally → Tally → ℕ
added t t' = t'.records - t.records
