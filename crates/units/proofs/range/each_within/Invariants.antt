-- Before point t what is gathered is 0 exactly where every number passed is within the limit.
use Rattle.std.proofs.Common.{◌≡◌, ◌≤◌, eqb}
use Rattle.integers.specs.Sums.{every}
use Rattle.rules.specs.Fields.{sized}
use Rattle.units.specs.Points.{at}
use Rattle.units.proofs.range.each_within.Given as goal

abbrev pub invariant-loop-t : goal.invariant-loop-t
invariant-loop-t l = (l.t ≤ l.many) × (eqb l.any 0 ≡ every l.t (λ i. sized l.limit (at l.start l.numbers i)))
