-- What it is for tally and lent lists to be kept of a book: each number in them is the rules' number of a region, by its place, or of the plant of a unit, by
-- the unit's place in the roster.
use Rattle.std.specs.Prelude.{◌≡◌, [], ℕ, ◌+◌, ◌*◌, ◌<◌, pos, get_or, length}
use Rattle.integers.specs.Totals.{total}
use Rattle.rules.specs.declared.Direction.{Direction}
use Rattle.rules.specs.Quantities.{points, regions}
use Rattle.rules.specs.Book.{Unit, Book, regionOf}
use Rattle.rules.specs.UnitRecord.{unit_in}
use Rattle.rules.specs.Plants.{good_plants}
use Rattle.rules.specs.Performance.{weight_in, wanted, plants_of}
use Rattle.interval.specs.declared.Tally.{Tally}
use Rattle.interval.specs.Tally.{settings_of, book_end}
use Rattle.chain.specs.PlantsAt.{plant_at, home_at}
use Rattle.interval.specs.Lent.{Lent, series_start, kept_measure, sum_place, figures_each, figures_of, row_each, in_row, row_of}

-- a unit of the roster, by its place
abbrev pub roster_unit : Book → ℕ → Unit
roster_unit b j = get_or b.roster j (unit_in [])

pub record Keeps (t : Tally) (l : Lent) (b : Book) : Type 0 where
  pub settings : settings_of t ≡ b.settings
  pub units : t.units ≡ length b.roster
  -- of a region: measures with their dropped points, the sums over all its good plants, figures
  pub measures : (r p : ℕ) → r < regions → p < points → get_or l.measures (series_start r + p) (pos 0) ≡ kept_measure b.settings (regionOf b r) p
  pub sums : (d : Direction) (r p : ℕ) → r < regions → p < points → get_or l.sums (sum_place d r p) (pos 0) ≡ total (λ x. wanted d (x.deviation p))
      (good_plants (plants_of b r))
  pub figures : (r i : ℕ) → r < regions → i < figures_each → get_or l.figures (figures_each * r + i) (pos 0) ≡ figures_of b.settings (regionOf b r) i
  -- of a unit: number, home and row of its plant up to it
  pub numbers : (j : ℕ) → j < length b.roster → get_or l.numbers j 0 ≡ (plant_at (roster_unit b) j).number
  pub homes : (j : ℕ) → j < length b.roster → get_or l.homes j 0 ≡ home_at (roster_unit b) (length b.roster) j
  pub rows : (j i : ℕ) → j < length b.roster → i < row_each → in_row l.rows j i ≡ row_of (weight_in b (roster_unit b j).region)
      (plant_at (roster_unit b) j) i
  -- a plant is in the region of all its units
  pub regions : (j : ℕ) → j < length b.roster → (plant_at (roster_unit b) j).region ≡ (roster_unit b j).region

-- ---- what the calls leave of a whole book
pub record BookMeans (b : Book) (t : Tally) (l : Lent) : Type 0 where
  pub requirements : t.requirements ≡ length b.requirements
  pub ended : t.records ≡ book_end t
  pub keeps : Keeps t l b
