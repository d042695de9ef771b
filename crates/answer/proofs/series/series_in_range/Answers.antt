-- Before point t every point passed is in range; the first that is not ends the loop.
use mathlib.Core.Path.{◌≡◌, sym, ◌∙◌}
use mathlib.Core.Bool.{Bool, ◌&&◌}
use mathlib.Core.List.{[]}
use Prim.Native.Nat.{ℕ, ◌*◌}
use native.Mathlib.Omega.{arith}
use Rattle.integers.proofs.Sums.{every_step, every_none, every_fails}
use Rattle.rules.specs.Quantities.{points, deviation_limit}
use Rattle.rules.specs.declared.Direction.TheVariants.{Raise, Lower}
use Rattle.kept.specs.Range.{measures_fine, sums_fine, series_fine}
use Rattle.answer.specs.Asked.{lent}
use Rattle.answer.proofs.series.series_in_range.Goals as goal
use Rattle.answer.proofs.series.series_in_range.Goals.{After-point_within, At-loop-t}

abbrev L : After-point_within → At-loop-t
L c = (goal.at.After-point_within c).At-loop-t

abbrev tests : At-loop-t → ℕ → Bool
tests l t =
    let most = deviation_limit * l.args.units in
    let all = lent l.args.measures.now l.args.sums.now [] [] [] in
    measures_fine all t && (sums_fine most all Raise t && sums_fine most all Lower t)

pub loop-t-init : goal.loop-t-init
loop-t-init c = (omega arith, every_none _)

pub returns-then-not-point_within : goal.returns-then-not-point_within
unfolding series_fine
returns-then-not-point_within c =
    sym (every_fails points (tests (L (goal.at.returns-then-not-point_within c).After-point_within)) (L (goal.at.returns-then-not-point_within c).After-point_within).loop-t.t (omega arith)
    (sym c.point_within.ensures ∙ c.if-not-point_within.true))

pub loop-t-preserved : goal.loop-t-preserved
loop-t-preserved c =
    (omega arith, every_step _ (tests (L (goal.at.loop-t-preserved c).After-point_within)) (L (goal.at.loop-t-preserved c).After-point_within).loop-t.invariant.1 (sym c.point_within.ensures ∙ c.if-not-point_within.false))

pub returns : goal.returns
unfolding series_fine
returns c = let e : c.loop-t.t ≡ points = omega arith in sym (rw e at c.loop-t.invariant.1)
