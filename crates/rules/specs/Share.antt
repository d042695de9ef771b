-- The share (01, The rules; 02, R-9 for equal remainders): a total T over n weights, w 0 to w (n - 1), summing to W.
use Rattle.std.specs.Prelude.{Bool, cond, ◌&&◌, ◌||◌, List, ℕ, ◌+◌, ◌*◌, ◌-◌, ◌/◌, ◌%◌, leb, ltb, eqb, length, get_or}
use Rattle.integers.specs.Sums.{one, sumℕ, count}
use Rattle.rules.specs.declared.Refusal.TheVariants.{TooShort, WrongCount}
use Rattle.rules.specs.Quantities.{total_limit, weight_limit}
use Rattle.rules.specs.Refusals.{Reply, taken, unless}

-- W
abbrev pub weight_sum : ℕ → (ℕ → ℕ) → ℕ
weight_sum n w = sumℕ n w

-- who comes first, j before i: the larger number; of equal ones, as a rule says
abbrev pub ahead : (ℕ → ℕ → Bool) → (ℕ → ℕ) → ℕ → ℕ → Bool
ahead first r j i = ltb (r i) (r j) || eqb (r i) (r j) && first j i

-- two rules for members with equal remainders and the weights w: the earlier member, as 01 has it,
abbrev pub earlier_first : (ℕ → ℕ) → ℕ → ℕ → Bool
earlier_first w j i = ltb j i

-- and, since R-9, the larger weight, then the earlier member
abbrev pub larger_first : (ℕ → ℕ) → ℕ → ℕ → Bool
larger_first w = ahead (earlier_first w) w

module _ (T n : ℕ) (w : ℕ → ℕ) where
  -- the whole part of T·weight/W, and its remainder
  abbrev pub whole : ℕ → ℕ
  whole i = T * w i / weight_sum n w

  abbrev pub remainder : ℕ → ℕ
  remainder i = T * w i % weight_sum n w

  -- what is left over
  unfoldable pub left_over : ℕ
  left_over = T - sumℕ n whole

  -- if W is 0, T is unplaced
  unfoldable pub unplaced : ℕ
  unplaced = cond (eqb (weight_sum n w) 0) T 0

  module _ (first : ℕ → ℕ → Bool) where
    -- what is left over goes one each to the largest remainders, equal ones by the rule: to those that fewer members than are left over come before
    unfoldable pub gets_one : ℕ → Bool
    gets_one i = ltb (count n (λ j. ahead first remainder j i)) left_over

    -- if W is 0 all get 0
    unfoldable pub amount : ℕ → ℕ
    amount i = cond (eqb (weight_sum n w) 0) 0 (whole i + one (gets_one i))

-- the same over a list of weights
abbrev pub weight_at : List ℕ → ℕ → ℕ
weight_at ws i = get_or ws i 0

abbrev pub share_by : ((ℕ → ℕ) → ℕ → ℕ → Bool) → ℕ → List ℕ → ℕ → ℕ
share_by rule T ws i = amount T (length ws) (weight_at ws) (rule (weight_at ws)) i

-- the rule that stands
abbrev pub share_of : ℕ → List ℕ → ℕ → ℕ
share_of T ws i = share_by larger_first T ws i

abbrev pub unplaced_of : ℕ → List ℕ → ℕ
unplaced_of T ws = unplaced T (length ws) (weight_at ws)

-- what a call that shares T over ws into room for so many amounts answers: how much is unplaced, or the refusal
unfoldable pub share_reply : ℕ → List ℕ → ℕ → Reply ℕ
share_reply T ws room =
    let W = weight_sum (length ws) (weight_at ws) in
    unless (leb (length ws) room) TooShort
    (unless (leb T total_limit && leb W weight_limit) WrongCount
    (taken (unplaced_of T ws)))
