-- What proofs/NoFairerSplit.antt speaks of: how far a split of T over weights is from the exact shares, T·weight/W each (02, R-14).
use Rattle.rules.specs.declared.Refusal.{Refusal}
use Rattle.std.specs.Prelude.{◌≡◌, Bool, List, map, ℕ, ◌*◌, ◌≤◌, ◌<◌, ℤ, pos, nat_abs, ◌-ℤ◌, ◌*ℤ◌, length, get_or, Result, Ok}
use Rattle.integers.specs.Pairs.{gain, loss}
use Rattle.integers.specs.Sums.{sumℕ}
use Rattle.integers.specs.Totals.{total, numbered}
use Rattle.rules.specs.Quantities.{billion}
use Rattle.rules.specs.Book.{Requirement, Book}
use Rattle.rules.specs.Members.{Member, members}
use Rattle.rules.specs.Share.{weight_sum, weight_at, share_by}
use Rattle.rules.specs.Factors.{helpful, unhelpful}
use Rattle.rules.specs.Cents.{used_weights, unused_weights}
use Rattle.rules.specs.Answer.{answer}
use Rattle.answer.specs.declared.Answer.{Answer}
use Rattle.answer.specs.Promises.{Columns}
use Rattle.demands.specs.ColumnsFront.{front, columns_of}

-- W
abbrev pub W : List ℕ → ℕ
W ws = weight_sum (length ws) (weight_at ws)

-- 'the distance between amount times W and T times weight', of a member in a list of amounts, and 'the sum over members'
abbrev pub distance : ℕ → List ℕ → List ℤ → ℕ → ℕ
distance T ws amounts i = nat_abs (get_or amounts i (pos 0) *ℤ pos (W ws) -ℤ pos (T * weight_at ws i))

abbrev pub distances : ℕ → List ℕ → List ℤ → ℕ
distances T ws amounts = sumℕ (length ws) (distance T ws amounts)

-- ours is a split of T over the weights, and 'for every list of whole numbers with the same length and total', of negative ones too, that sum 'is no smaller
-- than ours'. It may be equal: ours need not be the only one (`as_close`).
pub record NoFairerSplit (T : ℕ) (ws : List ℕ) (ours : List ℤ) : Type 0 where
  pub one_each : length ours ≡ length ws
  pub in_all : total (λ a. a) ours ≡ pos T
  pub none_closer : (others : List ℤ) → length others ≡ length ours → total (λ a. a) others ≡ total (λ a. a) ours → distances T ws ours ≤ distances T ws others

-- the share's split, under a rule for members with equal remainders
abbrev pub split_by : ((ℕ → ℕ) → ℕ → ℕ → Bool) → ℕ → List ℕ → List ℤ
split_by rule T ws = numbered (λ i w. pos (share_by rule T ws i)) ws

-- the amounts of a column that stand above zero, or below, as sizes
abbrev pub sizes : (ℤ → ℕ) → List ℤ → List ℤ
sizes size column = map (λ x. pos (size x)) column

-- The splits among a requirement's members, each where its weights are not all 0, from columns with one number a member: the payments' credits and debits, the
-- used and the unused charges, and the factors of either sign.
pub record SplitsFair (ms : List Member) (pool used_pool unused_pool : ℕ) (c : Columns) : Type 0 where
  pub credits : 0 < W (helpful ms) → NoFairerSplit pool (helpful ms) (sizes gain c.payments)
  pub debits : 0 < W (unhelpful ms) → NoFairerSplit pool (unhelpful ms) (sizes loss c.payments)
  pub used : 0 < W (used_weights ms) → NoFairerSplit used_pool (used_weights ms) (sizes loss c.used)
  pub unused : 0 < W (unused_weights ms) → NoFairerSplit unused_pool (unused_weights ms) (sizes loss c.unused)
  pub helpful_factors : 0 < W (helpful ms) → NoFairerSplit billion (helpful ms) (sizes gain c.factors)
  pub unhelpful_factors : 0 < W (unhelpful ms) → NoFairerSplit billion (unhelpful ms) (sizes loss c.factors)

-- of a requirement, from its book
abbrev pub RequirementFair : Book → Requirement → Type 0
RequirementFair b q =
    let a = answer b q in
    SplitsFair (members b q) a.pool a.used_pool a.unused_pool (columns_of a.lines)

-- and of what a caller has after the call: the answer's figures, and a number of each member at the front of each column
pub record ColumnsFair (b : Book) (q : Requirement) (r : Result Answer Refusal) (new : Columns) : Type 0 where
  pub figures : Answer
  pub given : r ≡ Ok figures
  pub fair : SplitsFair (members b q) figures.pool figures.used.pool figures.unused.pool (front figures.members new)
