-- `sum_of` meets its contract: the sum so far is within the limit; a weight that has no room below the limit takes W over it, since no weight
-- makes a sum smaller.
use Rattle.std.proofs.Common.{◌≡◌, ℕ, ◌≤◌, List, length}
use Rattle.integers.specs.Sums.{sumℕ}
use Rattle.rules.specs.Quantities.{weight_limit}
use Rattle.rules.specs.Share.{weight_at}
use Rattle.share.specs.Weighing.{weighed}
use Rattle.share.proofs.weights.sum_of.Given as goal

pub record Turn (xs : List ℕ) (n sum i : ℕ) : Type 0 where
  pub all : n ≡ length xs
  pub within : i ≤ n
  pub small : sum ≤ weight_limit
  pub so_far : sum ≡ sumℕ i (weight_at xs)

abbrev pub invariant-loop-i : goal.invariant-loop-i
invariant-loop-i l = Turn (weighed l.source l.weights l.performances) l.n l.sum l.i
