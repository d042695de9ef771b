-- Before a row the numbers of the rows passed stand at the front, and they are no more than the rows.
use Prim.Native.Nat.{◌≤◌}
use Rattle.answer.specs.Asked.{lent_members}
use Rattle.answer.specs.Values.{RowsPut}
use Rattle.answer.proofs.values.put_rows.Given as goal

abbrev pub invariant-loop-row : goal.invariant-loop-row
invariant-loop-row l =
    (l.row ≤ l.units) × RowsPut l.field l.direction l.set l.row (lent_members l.figures l.homes l.rows) l.initial.column l.at l.column
