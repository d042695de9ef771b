-- Before a row the count is that of the set's rows among those passed.
use mathlib.Core.Path.{◌≡◌}
use Prim.Native.Nat.{◌≤◌}
use lib.ListN.{length}
use Rattle.panel.proofs.MembersLaws.{rows}
use Rattle.panel.proofs.members.rows_in.Given as goal

abbrev pub invariant-loop-row : goal.invariant-loop-row
invariant-loop-row l = (l.row ≤ l.units) × (l.rows ≡ length (rows l.set l.homes l.row))
