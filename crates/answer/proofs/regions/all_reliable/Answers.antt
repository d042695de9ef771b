-- Before a region every one passed stands; the first that does not ends the loop.
use mathlib.Core.Path.{◌≡◌, sym, ◌∙◌}
use mathlib.Core.Bool.{Bool, not, ◌||◌}
use mathlib.Core.List.{[]}
use Prim.Native.Nat.{ℕ}
use native.Mathlib.Omega.{arith}
use Rattle.integers.proofs.Sums.{every_step, every_none, every_fails}
use Rattle.rules.specs.Bytes.{bit}
use Rattle.rules.specs.Quantities.{regions}
use Rattle.kept.specs.Kept.{reliable_of}
use Rattle.answer.specs.Asked.{lent_members}
use Rattle.answer.proofs.regions.all_reliable.Goals as goal
use Rattle.answer.proofs.regions.all_reliable.Goals.{After-stands, At-loop-region}

abbrev L : After-stands → At-loop-region
L c = (goal.at.After-stands c).At-loop-region

abbrev tests : At-loop-region → ℕ → Bool
tests l r = let a = l.args in not (bit r a.set) || reliable_of (lent_members a.figures.now [] []) a.direction r

pub loop-region-init : goal.loop-region-init
loop-region-init c = (omega arith, every_none _)

pub returns-then-not-stands : goal.returns-then-not-stands
returns-then-not-stands c =
    sym (every_fails regions (tests (L (goal.at.returns-then-not-stands c).After-stands)) (L (goal.at.returns-then-not-stands c).After-stands).loop-region.region (omega arith)
    (sym c.stands.ensures ∙ c.if-not-stands.true))

pub loop-region-preserved : goal.loop-region-preserved
loop-region-preserved c = (omega arith, every_step _ (tests (L (goal.at.loop-region-preserved c).After-stands)) (L (goal.at.loop-region-preserved c).After-stands).loop-region.invariant.1 (sym c.stands.ensures ∙ c.if-not-stands.false))

pub returns : goal.returns
returns c = let e : c.loop-region.region ≡ regions = omega arith in sym (rw e at c.loop-region.invariant.1)
