-- The place is within the text, and what is left of it falls.
use Prim.Native.Nat.{◌≤◌}
use lib.ListN.{length}
use Rattle.sheet.proofs.books.word_in.Given as goal

abbrev pub invariant-loop-i : goal.invariant-loop-i
invariant-loop-i l =
    l.i ≤ length l.text
