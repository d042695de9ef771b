-- What a pass over a member's lists finds.
use Rattle.std.specs.Prelude.{ℕ}
use Rattle.integers.specs.Sums.{every}
use Rattle.rules.specs.declared.RunningWeek.{RunningWeek}
use Rattle.rules.specs.declared.Refusal.TheVariants.{WrongWeek}
use Rattle.rules.specs.Refusals.{Reply, taken, unless}
use Rattle.rules.specs.Week.{Interval, within, live_count, live_total}
use Rattle.rules.specs.RunningWeek.{running}

-- the running week of the first n intervals
abbrev pub run_of : ℕ → (ℕ → Interval) → RunningWeek
run_of n w = running n (live_count n w) (live_total n w)

unfoldable pub gathered : ℕ → ℕ → (ℕ → Interval) → Reply RunningWeek
gathered limit n w = unless (every n (λ i. within limit (w i))) WrongWeek (taken (run_of n w))
