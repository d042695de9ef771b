-- Before a row the members passed and those still to pass are the member's number: the row of the set at which none is to pass is the member's, and where the
-- rows end first there is none.
use mathlib.Core.Path.{◌≡◌}
use Prim.Native.Nat.{◌+◌, ◌≤◌}
use lib.ListN.{length}
use Rattle.panel.proofs.MembersLaws.{rows}
use Rattle.panel.proofs.members.row_of.Given as goal

abbrev pub invariant-loop-at : goal.invariant-loop-at
invariant-loop-at l = (l.at ≤ l.units) × (length (rows l.set l.homes l.at) + l.before ≡ l.member)
