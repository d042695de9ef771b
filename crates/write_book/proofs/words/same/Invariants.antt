-- The letters left fall.
use Prim.Native.Nat.{◌≤◌}
use lib.ListN.{length}
use Rattle.write_book.proofs.words.same.Given as goal

abbrev pub invariant-loop-i : goal.invariant-loop-i
invariant-loop-i l =
    l.i ≤ length l.word
