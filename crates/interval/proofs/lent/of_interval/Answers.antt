-- Before a region every one passed is of the book; the first that is not ends the loop.
use mathlib.Core.Path.{◌≡◌, sym, ◌∙◌}
use mathlib.Core.Bool.{Bool}
use Prim.Native.Nat.{ℕ, ◌*◌}
use native.Mathlib.Omega.{arith}
use lib.IntN.{pos}
use lib.ListN.{get_or}
use borrow.Author.Rules.{sfits_of}
use mir.Facts.{to_z-of_z}
use borrow.Author.Tests.{lt-leb, le-leb}
use Rattle.integers.proofs.Sums.{every_step, every_none, every_fails}
use Rattle.rules.specs.Quantities.{regions}
use Rattle.interval.specs.Lent.{figures_each, is_number, of_interval}
use Rattle.interval.proofs.lent.of_interval.Goals as goal
use Rattle.interval.proofs.lent.of_interval.Goals.{After-is_number, At-loop-region}

abbrev L : After-is_number → At-loop-region
L c = (goal.at.After-is_number c).At-loop-region

abbrev tests : At-loop-region → ℕ → Bool
tests l r = is_number l.args.interval (get_or l.args.figures.now (figures_each * r) (pos 0))

told : (c : After-is_number) → tests (L c) (L c).loop-region.region ≡ c.is_number.result
told c = sym (rw (to_z-of_z (sfits_of c.is_number-arg-1.given)) at c.is_number.ensures)

pub returns-then-figures-lt-FIGURES_LENGTH : goal.returns-then-figures-lt-FIGURES_LENGTH
returns-then-figures-lt-FIGURES_LENGTH c = rw (lt-leb _ _ c.if-figures-lt-FIGURES_LENGTH.true)

pub loop-region-init : goal.loop-region-init
loop-region-init c = (omega arith, every_none _)

pub returns-then-not-is_number : goal.returns-then-not-is_number
unfolding of_interval
returns-then-not-is_number c =
    rw (le-leb _ _ (L (goal.at.returns-then-not-is_number c).After-is_number).if-figures-lt-FIGURES_LENGTH.false)
    (sym (every_fails regions (tests (L (goal.at.returns-then-not-is_number c).After-is_number)) (L (goal.at.returns-then-not-is_number c).After-is_number).loop-region.region (omega arith) (told (goal.at.returns-then-not-is_number c).After-is_number ∙ c.if-not-is_number.true)))

pub loop-region-preserved : goal.loop-region-preserved
loop-region-preserved c =
    (omega arith, every_step _ (tests (L (goal.at.loop-region-preserved c).After-is_number)) (L (goal.at.loop-region-preserved c).After-is_number).loop-region.invariant.1 (told (goal.at.loop-region-preserved c).After-is_number ∙ c.if-not-is_number.false))

pub returns : goal.returns
unfolding of_interval
returns c =
    let e : c.loop-region.region ≡ regions = omega arith in
    rw (le-leb _ _ c.if-figures-lt-FIGURES_LENGTH.false) (sym (rw e at c.loop-region.invariant.1))
