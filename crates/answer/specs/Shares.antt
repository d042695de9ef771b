-- What the shares of a requirement's members promise each other: no share of theirs refuses.
use Rattle.answer.specs.declared.shares.Paid.{Paid}
use Rattle.rules.specs.declared.Refusal.{Refusal}
use Rattle.std.specs.Prelude.{◌≡◌, List, map, ℕ, ◌≤◌, ℤ, pos, neg_ℤ, length, Result, Ok}
use Rattle.integers.specs.Pairs.{gain, loss}
use Rattle.integers.specs.Fills.{filled}
use Rattle.integers.specs.Totals.{totalℕ}
use Rattle.rules.specs.declared.Direction.{Direction}
use Rattle.rules.specs.Quantities.{total_limit, weight_limit, billion}
use Rattle.rules.specs.Cents.{any_weight}
use Rattle.rules.specs.Share.{share_of, unplaced_of}
use Rattle.interval.specs.Lent.{Lent}
use Rattle.share.specs.Signs.{signs_at}
use Rattle.answer.specs.declared.Field.{Field}
use Rattle.answer.specs.declared.Field.TheVariants.{Payment}
use Rattle.answer.specs.Lists.{headed}
use Rattle.answer.specs.Values.{numbers}
use Rattle.answer.specs.Pools.{pool_cents}

-- a total within its limit, weights within theirs, and a column that takes the amounts
pub record Shareable (T : ℕ) (side : ℤ → ℕ) (ps : List ℤ) (column_length : ℕ) : Type 0 where
  pub total : T ≤ total_limit
  pub weights : totalℕ (λ w. w) (map side ps) ≤ weight_limit
  pub long : length (map side ps) ≤ column_length

pub record Charged (T : ℕ) (ps old : List ℤ) (r : Result ℕ Refusal) (new : List ℤ) : Type 0 where
  pub reply : r ≡ Ok (unplaced_of T (map loss ps))
  pub amounts : new ≡ filled (length (map loss ps)) (λ i. neg_ℤ (pos (share_of T (map loss ps) i))) old

pub record SignsShared (T : ℕ) (ps old : List ℤ) (r : Result (ℕ × ℕ) Refusal) (new : List ℤ) : Type 0 where
  pub reply : r ≡ Ok ((unplaced_of T (map gain ps)), (unplaced_of T (map loss ps)))
  pub amounts : new ≡ filled (length ps) (signs_at T ps) old

-- ---- over the members of a requirement
pub record MembersCharged (f : Field) (T units : ℕ) (d : Direction) (set : ℕ) (l : Lent) (old was : List ℤ) (r : Result ℕ Refusal)
    (new now : List ℤ) : Type 0 where
  pub reply : r ≡ Ok (unplaced_of T (map loss (numbers f units d set l)))
  pub column : new ≡ headed (numbers f units d set l) old
  pub amounts :
      now ≡ filled (length (map loss (numbers f units d set l)))
      (λ i. neg_ℤ (pos (share_of T (map loss (numbers f units d set l)) i))) was

-- the pool by the signs of numbers
abbrev pub pool_over : ℕ → ℕ → List ℤ → ℕ
pool_over price rcr vs = pool_cents price rcr (any_weight (map gain vs)) (any_weight (map loss vs))

-- the pool over the first n numbers, which `pay_pool` shares
pub record PoolPaid (n pool : ℕ) (ps old : List ℤ) (r : Result Paid Refusal) (new : List ℤ) : Type 0 where
  pub reply : r ≡ Ok (record { members = n; pool = pool })
  pub payments : new ≡ filled (length ps) (signs_at pool ps) old

pub record MembersPaid (price rcr units : ℕ) (d : Direction) (set : ℕ) (l : Lent) (old₁ old₂ old₃ : List ℤ) (r : Result Paid Refusal)
    (new₁ new₂ new₃ : List ℤ) : Type 0 where
  pub reply :
      r ≡
      Ok (record {
        members = length (numbers Payment units d set l);
        pool = pool_over price rcr (numbers Payment units d set l);
      })
  pub performances : new₁ ≡ headed (numbers Payment units d set l) old₁
  pub factors : new₂ ≡ filled (length (numbers Payment units d set l)) (signs_at billion (numbers Payment units d set l)) old₂
  pub payments :
      new₃ ≡ filled (length (numbers Payment units d set l))
      (signs_at (pool_over price rcr (numbers Payment units d set l)) (numbers Payment units d set l)) old₃
