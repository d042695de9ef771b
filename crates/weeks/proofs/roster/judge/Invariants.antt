-- No week passed is wrong, and what is found so far is the judgement of the members passed.
use Prim.Native.Nat.{◌≤◌}
use lib.ListN.{length}
use Rattle.weeks.proofs.Rosters.{Judged}
use Rattle.weeks.proofs.roster.judge.Given as goal

abbrev pub invariant-loop-j : goal.invariant-loop-j
invariant-loop-j l =
    (l.j ≤ length l.whose) × Judged l.intervals l.whose l.performances l.live l.found l.j
