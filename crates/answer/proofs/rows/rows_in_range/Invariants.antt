-- Before a row every one passed is in range, and the number of units is that of the row's plant up to it, no more than the rows; the first that is not in range
-- ends the loop.
use mathlib.Core.Path.{◌≡◌}
use mathlib.Core.Bool.{true}
use mathlib.Core.List.{[]}
use Prim.Native.Nat.{◌≤◌}
use Rattle.integers.specs.Sums.{every}
use Rattle.kept.specs.Range.{units_at, unit_fine}
use Rattle.answer.specs.Asked.{lent_members}
use Rattle.answer.proofs.rows.rows_in_range.Given as goal

abbrev pub invariant-loop-row : goal.invariant-loop-row
invariant-loop-row l = (l.row ≤ l.units) × (l.many ≡ units_at l.homes l.row) × (every l.row (unit_fine (lent_members [] l.homes l.rows)) ≡ true)
