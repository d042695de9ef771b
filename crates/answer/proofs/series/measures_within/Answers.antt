-- Before a region the FM of every one passed is within the limit; the first that is not ends the loop.
use mathlib.Core.Path.{◌≡◌, sym, ◌∙◌}
use mathlib.Core.Bool.{Bool}
use Prim.Native.Nat.{ℕ}
use native.Mathlib.Omega.{arith}
use borrow.Author.Rules.{sfits_of}
use lib.IntN.{ℤ}
use mir.Syntax.{w32, w64}
use mir.Val.{SFits}
use mir.Facts.{to_z-of_z, sfits_widen}
use Rattle.integers.proofs.Sums.{every_step, every_none, every_fails}
use Rattle.rules.specs.Quantities.{regions, measure_limit}
use Rattle.rules.specs.Fields.{sized}
use Rattle.interval.specs.Lent.{measure_held}
use Rattle.interval.proofs.HeldLaws.{held_bounds}
use Rattle.answer.proofs.series.measures_within.Invariants.{there}
use Rattle.answer.proofs.series.measures_within.Goals as goal
use Rattle.answer.proofs.series.measures_within.Goals.{After-measure-1, After-within_bounds, At-loop-region}

abbrev L : After-within_bounds → At-loop-region
L c = (goal.at.After-within_bounds c).At-loop-region

abbrev tests : At-loop-region → ℕ → Bool
tests l r = sized measure_limit (measure_held (there l.args.measures.now l.args.t r))

abbrev measured : After-measure-1 → ℤ
measured c = there c.args.measures.now c.args.t c.loop-region.region

narrow : (c : After-measure-1) → SFits w32 (measured c)
narrow c = sfits_of c.measure-1.given

wide : (c : After-measure-1) → SFits w64 (measured c)
wide c = sfits_widen {w' = w64} tt (narrow c)

told : (c : After-within_bounds) → tests (L c) (L c).loop-region.region ≡ c.within_bounds.result
told c =
    sym (rw (to_z-of_z (narrow (goal.at.After-within_bounds c).After-measure-1), to_z-of_z (wide (goal.at.After-within_bounds c).After-measure-1)) at c.within_bounds.ensures ∙ held_bounds (measured (goal.at.After-within_bounds c).After-measure-1))

pub loop-region-init : goal.loop-region-init
loop-region-init c = (omega arith, every_none _)

pub overflow_cast-measure : goal.overflow_cast-measure
overflow_cast-measure c = rw (to_z-of_z (narrow (goal.at.overflow_cast-measure c).After-measure-1)) (wide (goal.at.overflow_cast-measure c).After-measure-1)

pub returns-then-not-within_bounds : goal.returns-then-not-within_bounds
returns-then-not-within_bounds c = sym (every_fails regions (tests (L (goal.at.returns-then-not-within_bounds c).After-within_bounds)) (L (goal.at.returns-then-not-within_bounds c).After-within_bounds).loop-region.region (omega arith) (told (goal.at.returns-then-not-within_bounds c).After-within_bounds ∙ c.if-not-within_bounds.true))

pub loop-region-preserved : goal.loop-region-preserved
loop-region-preserved c = (omega arith, every_step _ (tests (L (goal.at.loop-region-preserved c).After-within_bounds)) (L (goal.at.loop-region-preserved c).After-within_bounds).loop-region.invariant.1 (told (goal.at.loop-region-preserved c).After-within_bounds ∙ c.if-not-within_bounds.false))

pub returns : goal.returns
returns c = let e : c.loop-region.region ≡ regions = omega arith in sym (rw e at c.loop-region.invariant.1)
