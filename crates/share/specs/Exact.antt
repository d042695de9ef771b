-- Amounts held against the exact shares of both sides: what a call promises, and what its parts ask of each other.
use Rattle.std.specs.Prelude.{◌≡◌, ℕ, zero, suc, ◌<◌, List, length, ℤ, Option, None, Some, Result, Ok, Err}
use Rattle.rules.specs.declared.Refusal.{Refusal}
use Rattle.rules.specs.declared.Side.{Side}
use Rattle.rules.specs.declared.Side.TheVariants.{Positive, Negative}
use Rattle.rules.specs.Refusals.{Reply, taken, refused}
use Rattle.integers.specs.Sums.{first_wrong}
use Rattle.rules.specs.Sheet.{side_total, right_at, members_reply}
use Rattle.share.specs.declared.part.Rate.{Rate}
use Rattle.share.specs.Rates.{Rated, total_of}

-- a member as the code names it: 0 is nobody
abbrev pub member_of : ℕ → Option ℕ
member_of zero = None
member_of (suc k) = Some (suc k)

-- what the code answers for the definition's reply
abbrev pub judged_of : Reply ℕ → Result (Option ℕ) Refusal
judged_of (taken n) = Ok (member_of n)
judged_of (refused refusal) = Err refusal

pub record JudgedPromise (T : ℕ) (ps amounts : List ℤ) (r : Result (Option ℕ) Refusal) : Type 0 where
  pub reply : r ≡ judged_of (members_reply T ps amounts)

-- ---- the parts
-- the ratio of T over a W that is not 0
pub record SideRated (T W : ℕ) (rate : Rate) : Type 0 where
  pub rated : Rated rate
  pub total : total_of rate ≡ T
  pub sum : 0 < W → rate.sum ≡ W

-- those of both sides of the performances
pub record Sided (up down : Rate) (ps : List ℤ) : Type 0 where
  pub above : SideRated (total_of up) (side_total Positive ps) up
  pub below : SideRated (total_of up) (side_total Negative ps) down

-- the W of a side, as the ratios have it
abbrev pub sums : Rate → Rate → Side → ℕ
sums up down Positive = up.sum
sums up down Negative = down.sum

abbrev pub looked : ℕ → List ℤ → List ℤ → Option ℕ
looked T ps amounts = member_of (first_wrong (right_at T ps amounts) (length ps))
