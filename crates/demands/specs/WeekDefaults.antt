-- What proofs/WeekDefaults.antt speaks of.
use Rattle.std.specs.Prelude.{◌≡◌, List, ℕ, suc, ◌≤◌, ◌<◌, ℤ, length, get_or}
use Rattle.rules.specs.declared.RunningWeek.{RunningWeek}
use Rattle.rules.specs.Refusals.{Reply, taken}
use Rattle.rules.specs.Week.{Interval, interval}
use Rattle.rules.specs.RunningWeek.{run}
use Rattle.rules.specs.WeekRoster.{whose_of}
use Rattle.dullavane.specs.Weekly.{week_words, week_held, flag, WeekAddCalled}

-- the words of a running week before each call and after the last: two words of 0, then what each taken call leaves
pub record Added (m n : ℕ) (live : ℕ → ℕ) (p : ℕ → ℤ) (ws : ℕ → List ℕ) : Type 0 where
  pub long : week_words ≤ length (ws 0)
  pub first : get_or (ws 0) 0 0 ≡ 0
  pub second : get_or (ws 0) 1 0 ≡ 0
  pub taken_in : (i : ℕ) → i < n → WeekAddCalled m (live i) (p i) (ws i) 0 (ws (suc i))

-- the intervals that were added
abbrev pub added : (ℕ → ℕ) → (ℕ → ℤ) → ℕ → Interval
added live p i = interval (flag (live i)) (p i)

module _ (m : ℕ) (live : ℕ → ℕ) (p : ℕ → ℤ) (ws : ℕ → List ℕ) where
  abbrev pub runs : ℕ → Reply RunningWeek
  runs n = run (λ _. whose_of m) n (added live p)

  -- what a run of calls leaves stands in the words
  pub record Stands (n : ℕ) : Type 0 where
    pub week : RunningWeek
    pub ran : runs n ≡ taken week
    pub held : week_held (ws n) ≡ taken week
