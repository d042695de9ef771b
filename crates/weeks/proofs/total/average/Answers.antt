-- The base is divided first; what is left of both digits is divided after it (Averages).
use Prim.Native.Nat.{◌<◌}
use native.Mathlib.Omega.{arith}
use Rattle.rules.specs.declared.RunningWeek.{RunningWeek}
use Rattle.weeks.specs.Runs.{Run}
use Rattle.weeks.proofs.Averages.{rounds_down, rounds_up}
use Rattle.weeks.proofs.total.average.Goals as goal
use Rattle.weeks.proofs.total.average.Goals.{Else-n-eq0}

module _ (c : Else-n-eq0) where
  abbrev week : RunningWeek
  week = c.args.week

  run : Run week
  run = c.requires

  some : 0 < week.live
  some = omega (arith, c.if-n-eq0.false)

pub returns-then-rest-n : goal.returns-then-rest-n
returns-then-rest-n c =
    rounds_down (week (goal.at.returns-then-rest-n c).Else-n-eq0) (run (goal.at.returns-then-rest-n c).Else-n-eq0) (some (goal.at.returns-then-rest-n c).Else-n-eq0) c.if-rest-n.true

pub returns : goal.returns
returns c =
    rounds_up (week (goal.at.returns c).Else-n-eq0) (run (goal.at.returns c).Else-n-eq0) (some (goal.at.returns c).Else-n-eq0) c.if-rest-n.false
