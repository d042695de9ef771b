-- `sum_of` meets its contract: the sum so far is within the limit; a weight that has no room below the limit takes W over it, since no weight
-- makes a sum smaller.
use Rattle.std.proofs.Common.{◌≡◌, ℕ, ◌+◌, List, length, sym, ◌∙◌, arith}
use borrow.Author.Tests.{lt-leb}
use Rattle.integers.specs.Sums.{sumℕ}
use Rattle.integers.proofs.Sums.{sumℕ_none, sumℕ_step, sumℕ_prefix}
use Rattle.rules.specs.Quantities.{weight_limit}
use Rattle.rules.specs.Share.{weight_at}
use Rattle.share.specs.Weighing.{weighed}
use Rattle.share.proofs.weights.sum_of.Goals as goal
use Rattle.share.proofs.weights.sum_of.Goals.{After-weight-w, At-loop-i}

-- the weights, and the sum with one weight more
abbrev xs : At-loop-i → List ℕ
xs l = weighed l.args.source l.args.weights.now l.args.performances.now

more : (c : After-weight-w) → sumℕ (c.loop-i.i + 1) (weight_at (xs (goal.at.After-weight-w c).At-loop-i)) ≡
    c.loop-i.sum + c.weight-w.result
more c =
    sumℕ_step c.loop-i.i (weight_at (xs (goal.at.After-weight-w c).At-loop-i)) ∙ omega (arith, c.loop-i.invariant.so_far, c.weight-w.ensures)

pub loop-i-init : goal.loop-i-init
loop-i-init c =
    record {
      all = c.members-n.ensures;
      within = omega arith;
      small = omega arith;
      so_far = sym (sumℕ_none (weight_at (weighed c.args.source c.args.weights.now
          c.args.performances.now)));
    }

pub returns-then-sum-w : goal.returns-then-sum-w
returns-then-sum-w c =
    let p = sumℕ_prefix (c.loop-i.i + 1) (length (xs (goal.at.returns-then-sum-w c).At-loop-i)) (weight_at (xs (goal.at.returns-then-sum-w c).At-loop-i)) (omega (arith, c.loop-i.invariant.all)) in
    rw (lt-leb (sumℕ (length (xs (goal.at.returns-then-sum-w c).At-loop-i)) (weight_at (xs (goal.at.returns-then-sum-w c).At-loop-i))) weight_limit (omega (arith, more (goal.at.returns-then-sum-w c).After-weight-w)))

pub loop-i-preserved : goal.loop-i-preserved
loop-i-preserved c =
    record { all = c.loop-i.invariant.all; within = omega arith; small = omega arith; so_far = sym (more (goal.at.loop-i-preserved c).After-weight-w) }
