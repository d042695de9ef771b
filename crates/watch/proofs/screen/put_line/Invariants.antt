-- The line is within the page, its place within the screen; and the bytes left fall.
use Prim.Native.Nat.{◌≤◌}
use Rattle.watch.proofs.screen.put_line.Given as goal

abbrev pub invariant-loop-i : goal.invariant-loop-i
invariant-loop-i l = l.i ≤ 20
