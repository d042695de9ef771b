-- The deviations passed are 0, the others as they were.
use Rattle.std.proofs.Common.{◌≡◌, length, pos, sym, refl, ap, ◌∙◌, arith}
use Rattle.integers.proofs.Fills.{filled_none, filled_store, filled_length}
use Rattle.rules.specs.Quantities.{points}
use Rattle.units.proofs.plant.clear.Goals as goal
use Rattle.units.proofs.plant.clear.Goals.{At-loop-t, Start}

abbrev S : At-loop-t → Start
S c = (goal.at.At-loop-t c).Start

long : (c : At-loop-t) → length c.loop-t.deviations ≡ length (S c).args.deviations.now
long c = ap length c.loop-t.invariant.1 ∙ filled_length c.loop-t.t (λ i. pos 0) (S c).args.deviations.now

pub loop-t-init : goal.loop-t-init
loop-t-init c = (omega arith, sym (filled_none _ _))

pub slice_set_of-deviations : goal.slice_set_of-deviations
slice_set_of-deviations c = omega (arith, long (goal.at.slice_set_of-deviations c).At-loop-t)

pub loop-t-preserved : goal.loop-t-preserved
loop-t-preserved c =
    (omega arith, filled_store c.loop-t.t (λ i. pos 0) (S (goal.at.loop-t-preserved c).At-loop-t).args.deviations.now c.loop-t.deviations (pos 0) c.loop-t.invariant.1 refl)

pub returns : goal.returns
returns c = let e : c.loop-t.t ≡ points = omega arith in rw e at c.loop-t.invariant.1
