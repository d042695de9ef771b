-- No more members than rows were passed, and the rows left fall.
use Prim.Native.Nat.{◌≤◌}
use Rattle.sheet.proofs.books.name_of.Given as goal

abbrev pub invariant-loop-row : goal.invariant-loop-row
invariant-loop-row l =
    (l.members ≤ l.row) × (l.row ≤ l.tally.units)
