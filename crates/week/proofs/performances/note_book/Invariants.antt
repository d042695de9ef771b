-- The regions and directions left fall.
use Prim.Native.Nat.{◌≤◌}
use Rattle.week.proofs.performances.note_book.Given as goal

abbrev pub invariant-loop-each : goal.invariant-loop-each
invariant-loop-each l = l.each ≤ 10
