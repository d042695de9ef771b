-- Before a region each sum is that over the regions passed; a region adds at most 10,000,000,000,000 in size, so no step of a turn wraps.
use mathlib.Core.Path.{◌≡◌}
use mathlib.Core.List.{[]}
use Prim.Native.Nat.{◌≤◌}
use Rattle.integers.specs.Sums.{sum}
use Rattle.rules.specs.declared.Direction.TheVariants.{Raise, Lower}
use Rattle.answer.specs.Asked.{lent}
use Rattle.answer.specs.Rcr.{weighed_part, sum_part}
use Rattle.answer.proofs.points.sums_at.Given as goal

abbrev pub invariant-loop-region : goal.invariant-loop-region
invariant-loop-region l =
    let lists = lent l.measures l.sums l.figures [] [] in
    (l.region ≤ 5) × (l.weighed ≡ sum l.region (weighed_part l.set lists l.t)) × (l.risen ≡ sum l.region (sum_part Raise l.set lists l.t))
    × (l.fallen ≡ sum l.region (sum_part Lower l.set lists l.t))
