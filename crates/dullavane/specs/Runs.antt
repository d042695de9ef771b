-- What the call that takes a run of units promises, completely (02, R-6). Primed words and lists are what the call leaves.
use Rattle.std.specs.Prelude.{◌≡◌, cond, List, ℕ, eqb, length}
use Rattle.rules.specs.declared.Refusal.TheVariants.{EndsEarly}
use Rattle.rules.specs.Refusals.{Reply, taken, refused}
use Rattle.interval.specs.declared.Tally.{Tally}
use Rattle.interval.specs.Lent.{Lent}
use Rattle.interval.specs.Run.{in_run, whole, run_taken}
use Rattle.dullavane.specs.Words.{with_words, held, said, told}

-- over words that hold no tally the first record is refused; a run that is not whole is refused before, and an empty one asks for no tally
abbrev pub unheld_told : List ℕ → ℕ → ℕ
unheld_told run first = cond (whole run) (cond (eqb (length run) 0) 0 first) (said (in_run 0 EndsEarly))

-- what the call returns and leaves, by what the words hold: they count the records added, also where one behind them was refused
pub record Over : Type 0 where
  pub reply : ℕ
  pub words : List ℕ
  pub lent : Lent

abbrev pub run_over : Reply Tally → List ℕ → List ℕ → Lent → Over
run_over (taken t) ws run l =
    let x = run_taken t run l in
    record { reply = told x.step; words = with_words x.step.tally ws; lent = x.lent }
run_over (refused why) ws run l = record { reply = unheld_told run (said (in_run 1 why)); words = ws; lent = l }

pub record UnitsCalled (ws run : List ℕ) (l : Lent) (r : ℕ) (ws' : List ℕ) (l' : Lent) : Type 0 where
  pub reply : r ≡ (run_over (held ws) ws run l).reply
  pub tally : ws' ≡ (run_over (held ws) ws run l).words
  pub lent : l' ≡ (run_over (held ws) ws run l).lent
