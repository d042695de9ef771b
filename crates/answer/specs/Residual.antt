-- The residual as the code makes it, region by region, and what its sums ask for. Each plant stands in one region, so the sizes of the regions' residuals
-- together are within a unit's limit for each unit, with a residual's default limit for each region.
use Rattle.std.specs.Prelude.{◌≡◌, not, ◌||◌, ℕ, ◌+◌, ◌*◌, ◌≤◌, ◌<◌, eqb, ℤ, length}
use Rattle.integers.specs.Bounds.{Within}
use Rattle.integers.specs.Sums.{sum, every, when}
use Rattle.rules.specs.declared.Direction.{Direction}
use Rattle.rules.specs.declared.Reason.TheVariants.{UnreliableRegion, BadUnit, NoGoodUnit}
use Rattle.rules.specs.declared.Standing.{Standing}
use Rattle.rules.specs.declared.Standing.TheVariants.{Live, Default}
use Rattle.rules.specs.Quantities.{regions, most_units, performance_limit, residual_default_limit}
use Rattle.rules.specs.Bytes.{bit}
use Rattle.rules.specs.Standings.{standing}
use Rattle.interval.specs.Lent.{Lent, figures_length, row_each, in_row}
use Rattle.kept.specs.Kept.{
  figure,
  reliable_of,
  region_of,
  good_of,
  residual_default,
  units_in_region,
  good_in_region,
  some_good_or_none_of,
  residual_of,
}
use Rattle.kept.specs.Range.{units_at}
use Rattle.answer.specs.Asked.{tally_of}
use Rattle.answer.specs.declared.Member.{Member}
use Rattle.answer.specs.declared.residual.Held.{Held}
use Rattle.answer.specs.Made.{made}

-- ---- what the rows of a region hold
-- performances at a place in their rows, each within a unit's limit for each unit of its plant
pub record RowsWithin (at units : ℕ) (l : Lent) : Type 0 where
  pub place : at < row_each
  pub few : units ≤ most_units
  pub homes : units ≤ length l.homes
  pub rows : row_each * units ≤ length l.rows
  pub within : (i : ℕ) → i < units → Within (performance_limit * units_at l.homes i) (in_row l.rows i at)

abbrev pub performances_there : ℕ → ℕ → ℕ → Lent → ℤ
performances_there at r units l = sum units (λ i. when (eqb r (region_of l i)) (when (good_of l i) (in_row l.rows i at)))

pub record Holds (at r units : ℕ) (l : Lent) (h : Held) : Type 0 where
  pub rows : h.units ≡ units_in_region (tally_of units 0 0) l r
  pub good : h.good ≡ good_in_region (tally_of units 0 0) l r
  pub performed : h.sum ≡ performances_there at r units l

-- ---- a region's residual, with its defaults of the direction
abbrev pub residual_made : Lent → Direction → Standing → ℤ → ℕ → Member
residual_made l d s performance r = made s performance (residual_default l d 0 r) (residual_default l d 1 r) (residual_default l d 2 r)

abbrev pub region_made : ℕ → Lent → Direction → ℕ → Member
region_made units l d r =
    let t = tally_of units 0 0 in
    residual_made l d (standing (reliable_of l d r) (some_good_or_none_of t l r) NoGoodUnit) (residual_of t l d r) r

-- the worse of two standings
abbrev pub worse_of : Standing → Standing → Standing
worse_of Live next = next
worse_of (Default UnreliableRegion) next = Default UnreliableRegion
worse_of (Default BadUnit) next = Default BadUnit
worse_of (Default NoGoodUnit) Live = Default NoGoodUnit
worse_of (Default NoGoodUnit) (Default why) = Default why

-- figures of five regions, and rows with both performances
pub record PerformancesWithin (units : ℕ) (l : Lent) : Type 0 where
  pub figures : figures_length ≤ length l.figures
  pub raise : RowsWithin 0 units l
  pub lower : RowsWithin 1 units l

-- and the five regions' defaults
pub record RegionsWithin (units : ℕ) (l : Lent) : Type 0 where
  pub performances : PerformancesWithin units l
  pub defaults : (r f : ℕ) → r < regions → f < 6 → Within residual_default_limit (figure l r (4 + f))

-- ---- the residual of the first n regions of a set
module _ (units : ℕ) (l : Lent) (d : Direction) (set : ℕ) where
  abbrev pub region_at : ℕ → Member
  region_at r = region_made units l d r

  abbrev pub residual_to : ℕ → Member
  residual_to n =
      record {
        standing =
            standing (every n (λ r. not (bit r set) || reliable_of l d r))
            (every n (λ r. not (bit r set) || some_good_or_none_of (tally_of units 0 0) l r)) NoGoodUnit;
        payment = sum n (λ r. when (bit r set) (region_at r).payment);
        used = sum n (λ r. when (bit r set) (region_at r).used);
        unused = sum n (λ r. when (bit r set) (region_at r).unused);
      }
