-- Whose weights a total is shared over: those lent, or one side of the lent performances, and the sign that its amounts have.
use Rattle.std.specs.Prelude.{◌≡◌, ℕ, ◌+◌, ◌<◌, ◌≤◌, cond, List, map, length, ℤ, pos, neg_ℤ, nat_le}
use Rattle.integers.specs.Pairs.{gain, loss}
use Rattle.integers.specs.Sums.{sumℕ}
use Rattle.rules.specs.Quantities.{total_limit, weight_limit}
use Rattle.rules.specs.Share.{weight_sum, weight_at, whole, remainder, left_over}
use Rattle.share.specs.declared.weights.Source.{Source}
use Rattle.share.specs.declared.weights.Source.TheVariants.{Lent, Helpful, Unhelpful}

-- the weights of a source: those lent, the positive performances, or the negative ones with their sign turned
abbrev pub weighed : Source → List ℕ → List ℤ → List ℕ
weighed Lent ws ps = ws
weighed Helpful ws ps = map gain ps
weighed Unhelpful ws ps = map loss ps

-- an amount with the sign of its side
abbrev pub signed : Source → ℕ → ℤ
signed Lent a = pos a
signed Helpful a = pos a
signed Unhelpful a = neg_ℤ (pos a)

-- the share over a list of weights: W, the members with weight, and of each member the whole part and the remainder
abbrev pub sum_of : List ℕ → ℕ
sum_of xs = weight_sum (length xs) (weight_at xs)

abbrev pub whole_of : ℕ → List ℕ → ℕ → ℕ
whole_of T xs = whole T (length xs) (weight_at xs)

abbrev pub rest_of : ℕ → List ℕ → ℕ → ℕ
rest_of T xs = remainder T (length xs) (weight_at xs)

abbrev pub wholes_of : ℕ → List ℕ → ℕ
wholes_of T xs = sumℕ (length xs) (whole_of T xs)

abbrev pub left_of : ℕ → List ℕ → ℕ
left_of T xs = left_over T (length xs) (weight_at xs)

-- a sum of weights within the limit, and one more than the limit for any other
abbrev pub limited : ℕ → ℕ
limited W = cond (nat_le W weight_limit) W (weight_limit + 1)

-- W is the sum of the weights, above 0, and T and W are within their limits
pub record Shares (T : ℕ) (xs : List ℕ) (W : ℕ) : Type 0 where
  pub total : T ≤ total_limit
  pub sum : W ≡ sum_of xs
  pub some : 0 < W
  pub small : W ≤ weight_limit
