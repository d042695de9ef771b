-- Each turn goes one requirement on.
use Prim.Native.Nat.{◌-◌, ◌≤◌}
use Rattle.sheet.proofs.books.start_of.Given as goal

abbrev pub invariant-loop-start : goal.invariant-loop-start
invariant-loop-start l = l.start ≤ 768

abbrev pub decreases-loop-start : goal.decreases-loop-start
decreases-loop-start l = 768 - l.start
