-- Before a region every one passed is in range; the first that is not ends the loop.
use mathlib.Core.Path.{◌≡◌, sym, ◌∙◌}
use mathlib.Core.Bool.{Bool}
use Prim.Native.Nat.{ℕ}
use native.Mathlib.Omega.{arith}
use Rattle.integers.proofs.Sums.{every_step, every_none, every_fails}
use Rattle.rules.specs.Quantities.{regions}
use Rattle.panel.specs.Press.{reliability_fine}
use Rattle.panel.proofs.tested.reliabilities_in_range.Goals as goal
use Rattle.panel.proofs.tested.reliabilities_in_range.Goals.{After-reliable_in_range, At-loop-region}

abbrev L : After-reliable_in_range → At-loop-region
L c = (goal.at.After-reliable_in_range c).At-loop-region

abbrev tests : At-loop-region → ℕ → Bool
tests l r = reliability_fine l.args.figures.now r

pub loop-region-init : goal.loop-region-init
loop-region-init c = (omega arith, every_none _)

pub returns-then-not-reliable_in_range : goal.returns-then-not-reliable_in_range
returns-then-not-reliable_in_range c =
    let l = L (goal.at.returns-then-not-reliable_in_range c).After-reliable_in_range in
    sym (every_fails regions (tests l) l.loop-region.region (omega arith) (sym c.reliable_in_range.ensures ∙ c.if-not-reliable_in_range.true))

pub loop-region-preserved : goal.loop-region-preserved
loop-region-preserved c =
    let l = L (goal.at.loop-region-preserved c).After-reliable_in_range in
    (omega arith, every_step _ (tests l) l.loop-region.invariant.1 (sym c.reliable_in_range.ensures ∙ c.if-not-reliable_in_range.false))

pub returns : goal.returns
returns c = let e : c.loop-region.region ≡ regions = omega arith in sym (rw e at c.loop-region.invariant.1)
