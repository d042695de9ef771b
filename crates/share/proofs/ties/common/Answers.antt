-- `common` meets its contract: what is the greatest common divisor of the two numbers at hand is that of the first two. The smaller one falls.
use Rattle.std.proofs.Common.{arith}
use Rattle.integers.proofs.Multiples.{common_last, common_step}
use Rattle.share.proofs.ties.common.Goals as goal

pub loop-smaller-preserved : goal.loop-smaller-preserved
loop-smaller-preserved c = (omega arith, λ g h. c.loop-smaller.invariant.1 g (common_step h))

pub returns : goal.returns
returns c =
    let l = c.loop-smaller in
    l.invariant.1 l.larger (rw c.loop-smaller-test.false (common_last l.invariant.0))
