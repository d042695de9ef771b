-- What a possible sheet is, in the request's words, with products of whole numbers and no division (02, R-12): 'accept exactly when each factor is less than
-- one billionth from performance over the absolute total of its side, its sign agreeing or the factor being 0, and each side that has a member sums to exactly
-- plus or minus 1,000,000,000. A member whose performance is 0 must have the factor 0.'
use Rattle.std.specs.Prelude.{◌≡◌, List, ℕ, ◌≤◌, ◌<◌, ℤ, pos, nat_abs, ◌-ℤ◌, ◌*ℤ◌, length, ◌≤ℤ◌}
use Rattle.rules.specs.declared.Side.{Side}
use Rattle.rules.specs.declared.Side.TheVariants.{Positive, Negative}
use Rattle.rules.specs.Quantities.{billion, most_members, weight_limit}
use Rattle.rules.specs.Sheet.{on, signed, number_at, side_total, side_sum}

-- 'its sign agreeing or the factor being 0'
abbrev pub Agrees : Side → ℤ → Type 0
Agrees Positive f = pos 0 ≤ℤ f
Agrees Negative f = f ≤ℤ pos 0

-- of each member of a side; in `summed` any of them shows that the side has a member
pub record SidePossible (s : Side) (ps fs : List ℤ) : Type 0 where
  pub near : (i : ℕ) → i < length ps → 0 < on s (number_at ps i) →
      nat_abs (number_at fs i *ℤ pos (side_total s ps) -ℤ pos billion *ℤ number_at ps i) < side_total s ps
  pub sign : (i : ℕ) → i < length ps → 0 < on s (number_at ps i) → Agrees s (number_at fs i)
  pub summed : (i : ℕ) → i < length ps → 0 < on s (number_at ps i) → side_sum s ps fs ≡ signed s billion

pub record PossibleSheet (ps fs : List ℤ) : Type 0 where
  pub positive : SidePossible Positive ps fs
  pub negative : SidePossible Negative ps fs
  pub nothing : (i : ℕ) → i < length ps → number_at ps i ≡ pos 0 → number_at fs i ≡ pos 0

-- what no call refuses
pub record Judgeable (ps fs : List ℤ) : Type 0 where
  pub few : length fs ≤ most_members
  pub long : length ps ≡ length fs
  pub fits : (s : Side) → side_total s ps ≤ weight_limit
