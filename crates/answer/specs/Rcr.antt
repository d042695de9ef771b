-- RCR from what is kept: what its parts promise each other.
use Rattle.std.specs.Prelude.{◌≡◌, Bool, cond, not, ◌&&◌, ℕ, ◌+◌, ◌*◌, ◌≤◌, ◌<◌, leb, ℤ, pos, ◌*ℤ◌, length, get_or}
use Rattle.std.specs.Int.Signed.{lt_z}
use Rattle.integers.specs.Bounds.{Within}
use Rattle.integers.specs.Sums.{sum, count, largest, when}
use Rattle.rules.specs.declared.Direction.{Direction}
use Rattle.rules.specs.declared.Direction.TheVariants.{Raise, Lower}
use Rattle.rules.specs.Quantities.{points, regions, most_units, measure_limit, amount_limit}
use Rattle.rules.specs.Bytes.{bit}
use Rattle.rules.specs.Book.{toward}
use Rattle.interval.specs.Lent.{Lent, series_start, measure_held, series_length, sum_place, sums_length, figures_length, passed_over}
use Rattle.kept.specs.Kept.{generation_of, good_of, kept_weighed, kept_response, kept_rcr, kept_reliable}
use Rattle.answer.specs.Asked.{tally_of, asked}
use Rattle.answer.specs.Values.{meant}
use Rattle.answer.specs.declared.points.Sums.{Sums}
use Rattle.answer.specs.declared.rcr.Found.{Found}
use Rattle.answer.specs.declared.units.Units.{Units}

-- ---- the set's members by their homes, each of which names a region or is passed over
pub record HomesNamed (units : ℕ) (l : Lent) : Type 0 where
  pub long : units ≤ length l.homes
  pub here : (i : ℕ) → i < units → get_or l.homes i 0 ≤ passed_over

abbrev pub bad_there : ℕ → Lent → ℕ → Bool
bad_there set l i = meant set l i && not (good_of l i)

pub record Counted (units set : ℕ) (l : Lent) (r : Units) : Type 0 where
  pub all : r.all ≡ count units (meant set l)
  pub bad : r.bad ≡ count units (bad_there set l)

abbrev pub few_bad : ℕ → ℕ → ℕ → Lent → Bool
few_bad units percent set l = leb (100 * count units (bad_there set l)) (percent * count units (meant set l))

-- ---- the sums at a point
abbrev pub weighed_part : ℕ → Lent → ℕ → ℕ → ℤ
weighed_part set l p r = when (bit r set) (generation_of l r *ℤ measure_held (get_or l.measures (series_start r + p) (pos 0)))

abbrev pub sum_part : Direction → ℕ → Lent → ℕ → ℕ → ℤ
sum_part d set l p r = when (bit r set) (get_or l.sums (sum_place d r p) (pos 0))

pub record Summed (set p : ℕ) (l : Lent) (r : Sums) : Type 0 where
  pub weighed : r.weighed ≡ sum regions (weighed_part set l p)
  pub positive : r.positive ≡ sum regions (sum_part Raise set l p)
  pub negative : r.negative ≡ sum regions (sum_part Lower set l p)

abbrev pub point_response : Direction → ℕ → Lent → ℕ → ℕ
point_response d set l p = cond (lt_z (pos 0) (toward d (kept_weighed l (asked d set) p))) (kept_response l (asked d set) p) 0

abbrev pub points_largest : Direction → ℕ → Lent → ℕ
points_largest d set l = largest points (point_response d set l)

-- ---- what the tests tell: lists long enough, and numbers that no step takes past 64 bits
pub record PointsInRange (l : Lent) : Type 0 where
  pub measures_long : series_length ≤ length l.measures
  pub sums_long : sums_length ≤ length l.sums
  pub figures_long : figures_length ≤ length l.figures
  pub measures_within : (r p : ℕ) → r < regions → p < points → Within measure_limit (measure_held (get_or l.measures (series_start r + p) (pos 0)))
  pub sums_within : (d : Direction) (r p : ℕ) → r < regions → p < points → Within 7_680_000_000 (get_or l.sums (sum_place d r p) (pos 0))
  pub generation_within : (r : ℕ) → r < regions → Within amount_limit (generation_of l r)

-- and of the units
pub record RcrTested (units p : ℕ) (l : Lent) : Type 0 where
  pub few : units ≤ most_units
  pub percent : p ≤ 100
  pub points : PointsInRange l
  pub homes : HomesNamed units l

-- ---- RCR and reliability, by what the code has found
abbrev pub found_is : ℕ → ℕ → Direction → ℕ → Lent → Found
found_is units percent d set l =
    record { rcr = kept_rcr (tally_of units percent 0) l (asked d set); reliable = kept_reliable l (asked d set) }
