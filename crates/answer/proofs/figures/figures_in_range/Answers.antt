-- The interval number first. Before a region the figures of every one passed are within their limits; the first whose are not ends the loop.
use mathlib.Core.Path.{◌≡◌, sym, ◌∙◌}
use mathlib.Core.Bool.{Bool, true}
use mathlib.Core.List.{[]}
use Prim.Native.Nat.{ℕ}
use native.Mathlib.Omega.{arith}
use borrow.Author.Tests.{le-leb}
use lib.ListN.{length}
use Rattle.integers.proofs.Sums.{every_step, every_none, every_fails}
use Rattle.rules.specs.Quantities.{regions}
use Rattle.interval.specs.Lent.{of_interval}
use Rattle.kept.specs.Range.{region_fine, figures_fine}
use Rattle.answer.specs.Asked.{lent_members}
use Rattle.answer.proofs.figures.figures_in_range.Goals as goal
use Rattle.answer.proofs.figures.figures_in_range.Goals.{After-of_interval, After-region_within, At-loop-region, Start}

abbrev L : After-region_within → At-loop-region
L c = (goal.at.After-region_within c).At-loop-region

abbrev S : At-loop-region → Start
S l = (goal.at.At-loop-region l).Start

abbrev tests : At-loop-region → ℕ → Bool
tests l = region_fine (lent_members (S l).args.figures.now [] [])

numbered : (c : After-of_interval) → of_interval c.args.interval c.args.figures.now ≡ c.of_interval.result
numbered c = sym (rw (le-leb 50 (length c.args.figures.now) c.requires) at c.of_interval.ensures)

this_interval : (l : At-loop-region) → of_interval (S l).args.interval (S l).args.figures.now ≡ true
this_interval l = numbered (goal.at.At-loop-region l).After-of_interval ∙ l.if-not-of_interval.false

pub returns-then-not-of_interval : goal.returns-then-not-of_interval
unfolding figures_fine
returns-then-not-of_interval c = rw (numbered (goal.at.returns-then-not-of_interval c).After-of_interval ∙ c.if-not-of_interval.true)

pub loop-region-init : goal.loop-region-init
loop-region-init c = (omega arith, every_none _)

pub region_within-requires : goal.region_within-requires
region_within-requires c = (omega arith, (S (goal.at.region_within-requires c).At-loop-region).requires)

pub returns-then-not-region_within : goal.returns-then-not-region_within
unfolding figures_fine
returns-then-not-region_within c =
    let l = L (goal.at.returns-then-not-region_within c).After-region_within in
    rw (this_interval l)
    (sym (every_fails regions (tests l) l.loop-region.region (omega arith) (sym c.region_within.ensures ∙ c.if-not-region_within.true)))

pub loop-region-preserved : goal.loop-region-preserved
loop-region-preserved c =
    (omega arith, every_step _ (tests (L (goal.at.loop-region-preserved c).After-region_within)) (L (goal.at.loop-region-preserved c).After-region_within).loop-region.invariant.1 (sym c.region_within.ensures ∙ c.if-not-region_within.false))

pub returns : goal.returns
unfolding figures_fine
returns c =
    let e : c.loop-region.region ≡ regions = omega arith in
    rw (this_interval (goal.at.returns c).At-loop-region) (sym (rw e at c.loop-region.invariant.1))
