-- What is left of the limit is what the sizes passed have not used; a size that is more than what is left makes their sum too large.
use mathlib.Core.Path.{◌≡◌, sym, ◌∙◌, ap}
use Prim.Native.Nat.{ℕ, ◌+◌}
use native.Mathlib.Omega.{arith}
use borrow.Author.Rules.{sfits_of}
use borrow.Author.Tests.{lt-leb, le-leb}
use lib.IntN.{nat_abs}
use mir.Facts.{to_z-of_z}
use Rattle.integers.specs.Sums.{sumℕ}
use Rattle.integers.proofs.Sums.{sumℕ_step, sumℕ_none, sumℕ_prefix}
use Rattle.rules.specs.Quantities.{regions}
use Rattle.answer.proofs.series.sums_within.Invariants.{there}
use Rattle.answer.proofs.series.sums_within.Goals as goal
use Rattle.answer.proofs.series.sums_within.Goals.{After-size-here, At-loop-region}

abbrev L : After-size-here → At-loop-region
L c = (goal.at.After-size-here c).At-loop-region

abbrev sizes : At-loop-region → ℕ → ℕ
sizes l r = nat_abs (there l.args.sums.now l.args.at r)

more : (c : After-size-here) → sumℕ ((L c).loop-region.region + 1) (sizes (L c)) ≡ sumℕ (L c).loop-region.region (sizes (L c)) + c.size-here.result
more c =
    sumℕ_step (L c).loop-region.region (sizes (L c)) ∙ ap (λ (n : ℕ). sumℕ (L c).loop-region.region (sizes (L c)) + n)
    (sym (rw (to_z-of_z (sfits_of c.size-arg-1.given)) at c.size-here.ensures))

pub loop-region-init : goal.loop-region-init
loop-region-init c = (omega arith, omega (arith, sumℕ_none (λ r. nat_abs (there c.args.sums.now c.args.at r))))

pub returns-then-left-here : goal.returns-then-left-here
returns-then-left-here c =
    let l = L (goal.at.returns-then-left-here c).After-size-here in
    sym (lt-leb (sumℕ regions (sizes l)) l.args.most
    (omega (arith, more (goal.at.returns-then-left-here c).After-size-here, l.loop-region.invariant.1, sumℕ_prefix (l.loop-region.region + 1) regions (sizes l) (omega arith))))

pub loop-region-preserved : goal.loop-region-preserved
loop-region-preserved c = (omega arith, omega (arith, more (goal.at.loop-region-preserved c).After-size-here, (L (goal.at.loop-region-preserved c).After-size-here).loop-region.invariant.1))

pub returns : goal.returns
returns c =
    let e : c.loop-region.region ≡ regions = omega arith in
    sym (le-leb (sumℕ regions (sizes (goal.at.returns c).At-loop-region)) c.args.most (omega (arith, rw e at c.loop-region.invariant.1)))
