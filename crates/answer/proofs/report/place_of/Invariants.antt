-- Before a row the number of members is that of the rows passed, and not past the one that is asked for: the row with which it passes is that member's.
use mathlib.Core.Path.{◌≡◌}
use mathlib.Core.List.{[]}
use Prim.Native.Nat.{◌≤◌}
use lib.ListN.{length}
use Rattle.kept.specs.KeptReport.{stands}
use Rattle.answer.specs.Asked.{lent_members}
use Rattle.answer.proofs.ReportLaws.{up_to}
use Rattle.answer.proofs.report.place_of.Given as goal

abbrev pub invariant-loop-at : goal.invariant-loop-at
invariant-loop-at l =
    (l.at ≤ l.units) × (l.members ≡ length (up_to (stands (lent_members [] l.homes [])) l.at)) × (l.members ≤ l.row)
