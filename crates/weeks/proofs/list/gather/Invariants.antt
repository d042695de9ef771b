-- The record so far is the running week of the intervals passed, each of which is within the limit.
use mathlib.Core.Path.{◌≡◌}
use mathlib.Core.Bool.{true}
use Prim.Native.Nat.{ℕ, ◌≤◌}
use lib.ListN.{length}
use Rattle.integers.specs.Sums.{every}
use Rattle.rules.specs.declared.RunningWeek.{RunningWeek}
use Rattle.rules.specs.Week.{Interval, interval_at, within}
use Rattle.weeks.specs.Gather.{run_of}
use Rattle.weeks.proofs.list.gather.Given as goal

pub record Turn (limit : ℕ) (w : ℕ → Interval) (n : ℕ) (week : RunningWeek) (i : ℕ) : Type 0 where
  pub passed : i ≤ n
  pub so_far : week ≡ run_of i w
  pub inside : every i (λ j. within limit (w j)) ≡ true

abbrev pub invariant-loop-i : goal.invariant-loop-i
invariant-loop-i l =
    Turn l.limit (interval_at l.performances l.live) (length l.performances) l.week l.i
