-- Before point t what is gathered is 0 exactly where the FM of every measure passed is within the limit; each adds at most 1.
use Rattle.std.proofs.Common.{◌≡◌, ◌*◌, ◌≤◌, eqb}
use Rattle.integers.specs.Sums.{every}
use Rattle.rules.specs.Quantities.{measure_limit}
use Rattle.rules.specs.Fields.{sized}
use Rattle.interval.specs.Lent.{measure_held}
use Rattle.units.specs.Points.{at}
use Rattle.units.proofs.range.each_measure_within.Given as goal

abbrev pub invariant-loop-t : goal.invariant-loop-t
invariant-loop-t l = (l.t ≤ 75) × (l.many ≤ 1 * l.t) × (eqb l.many 0 ≡ every l.t (λ i. sized measure_limit (measure_held (at l.start l.measures i))))
