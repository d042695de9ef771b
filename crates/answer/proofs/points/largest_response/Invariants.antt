-- Before point t the number kept is the largest over the points passed.
use mathlib.Core.Path.{◌≡◌}
use Prim.Native.Nat.{◌≤◌}
use mathlib.Core.List.{[]}
use Rattle.integers.specs.Sums as s
use Rattle.answer.specs.Asked.{lent}
use Rattle.answer.specs.Rcr.{point_response}
use Rattle.answer.proofs.points.largest_response.Given as goal

abbrev pub invariant-loop-t : goal.invariant-loop-t
invariant-loop-t l =
    (l.t ≤ 75) × (l.largest ≡ s.largest l.t (point_response l.direction l.set (lent l.measures l.sums l.figures [] [])))
