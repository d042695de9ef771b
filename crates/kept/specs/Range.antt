-- Which lent numbers are in range when a requirement is answered (01, Numbers the box can say no with): kept fields within the limits of their fields, sums of
-- deviations within 15,000,000 for each unit taken, performances within a unit's limit for each unit of their plant. Each unit stands in one region, so the sizes of the five regions'
-- sums are within the limit together.
use Rattle.std.specs.Prelude.{Bool, cond, ◌&&◌, List, ℕ, zero, suc, ◌+◌, ◌*◌, eqb, leb, ℤ, pos, nat_abs, get_or}
use Rattle.std.specs.Int.Signed.{le_z}
use Rattle.integers.specs.Sums.{sumℕ, every}
use Rattle.rules.specs.Quantities.{points, regions, measure_limit, amount_limit, deviation_limit, residual_default_limit}
use Rattle.rules.specs.Fields.{default_fine, sized}
use Rattle.rules.specs.declared.Direction.{Direction}
use Rattle.rules.specs.declared.Direction.TheVariants.{Raise, Lower}
use Rattle.interval.specs.declared.Tally.{Tally}
use Rattle.interval.specs.Lent.{Lent, series_start, measure_held, sum_place, passed_over, row_fine, of_interval}
use Rattle.kept.specs.Kept.{figure}

-- from 0 to a limit
abbrev pub from_0 : ℕ → ℤ → Bool
from_0 limit x = le_z (pos 0) x && le_z x (pos limit)

-- ---- at a point: the FM of the five regions' measures, and their sums of deviations together
abbrev pub measures_fine : Lent → ℕ → Bool
measures_fine l p = every regions (λ r. sized measure_limit (measure_held (get_or l.measures (series_start r + p) (pos 0))))

abbrev pub sums_fine : ℕ → Lent → Direction → ℕ → Bool
sums_fine most l d p = leb (sumℕ regions (λ r. nat_abs (get_or l.sums (sum_place d r p) (pos 0)))) most

unfoldable pub series_fine : Tally → Lent → Bool
series_fine t l =
    every points (λ p. measures_fine l p && (sums_fine (deviation_limit * t.units) l Raise p && sums_fine (deviation_limit * t.units) l Lower p))

-- ---- of a region: the interval number, which is the tally's; generation, whether raise and lower are reliable (1 or 0), six defaults
abbrev pub region_fine : Lent → ℕ → Bool
region_fine l r =
    from_0 amount_limit (figure l r 1)
    && (from_0 1 (figure l r 2) && (from_0 1 (figure l r 3) && every 6 (λ i. default_fine residual_default_limit (figure l r (4 + i)))))

unfoldable pub figures_fine : Tally → Lent → Bool
figures_fine t l = of_interval t.interval l.figures && every regions (region_fine l)

-- ---- of a unit: its home, and its row, for as many units as its plant has up to it: 1 more than the rows right before it that are passed over
unfoldable pub units_at : List ℕ → ℕ → ℕ
units_at homes zero = 1
units_at homes (suc i) = cond (eqb (get_or homes i 0) passed_over) (units_at homes i + 1) 1

abbrev pub unit_fine : Lent → ℕ → Bool
unit_fine l i = leb (get_or l.homes i 0) passed_over && row_fine (units_at l.homes i) i l.rows

unfoldable pub rows_fine : Tally → Lent → Bool
rows_fine t l = every t.units (unit_fine l)

abbrev pub kept_fine : Tally → Lent → Bool
kept_fine t l = series_fine t l && (figures_fine t l && rows_fine t l)
