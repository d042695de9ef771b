-- Before a row both numbers are counts over the rows passed, so they are at most as many.
use mathlib.Core.Path.{◌≡◌}
use Prim.Native.Nat.{◌≤◌}
use mathlib.Core.List.{[]}
use Rattle.integers.specs.Sums.{count}
use Rattle.answer.specs.Asked.{lent_members}
use Rattle.answer.specs.Values.{meant}
use Rattle.answer.specs.Rcr.{bad_there}
use Rattle.answer.proofs.units.count_units.Given as goal

abbrev pub invariant-loop-row : goal.invariant-loop-row
invariant-loop-row l =
    (l.row ≤ l.units) × (l.all ≡ count l.row (meant l.set (lent_members [] l.homes []))) × (l.bad ≡ count l.row (bad_there l.set (lent_members [] l.homes [])))
