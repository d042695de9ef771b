-- There is room for the members of every book.
use Prim.Native.Nat.{◌≤◌}
use Rattle.week.proofs.replay.replay.Given as goal

abbrev pub invariant-loop-books : goal.invariant-loop-books
invariant-loop-books l = l.members ≤ 512
