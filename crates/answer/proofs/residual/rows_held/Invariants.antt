-- Before a row what is held is that of the rows passed.
use Prim.Native.Nat.{◌≤◌}
use mathlib.Core.List.{[]}
use Rattle.answer.specs.Asked.{lent_members}
use Rattle.answer.specs.Residual.{Holds}
use Rattle.answer.proofs.residual.rows_held.Given as goal

abbrev pub invariant-loop-row : goal.invariant-loop-row
invariant-loop-row l = (l.row ≤ l.units) × Holds l.at l.region l.row (lent_members [] l.homes l.rows) l.held
