-- A unit of the region moves the column's place by one, which is so no further than the row.
use Prim.Native.Nat.{◌≤◌}
use Rattle.week.proofs.performances.note_rows.Given as goal

abbrev pub invariant-loop-row : goal.invariant-loop-row
invariant-loop-row l = (l.row ≤ l.units) × (l.place ≤ l.row)
