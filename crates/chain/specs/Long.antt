-- The lent lists are long enough for a book of so many units, as the calls ask for (01, Numbers the box can say no with, 12).
use Rattle.std.specs.Prelude.{ℕ, ◌*◌, ◌≤◌, length}
use Rattle.rules.specs.Quantities.{points}
use Rattle.interval.specs.Lent.{Lent, series_length, sums_length, figures_length, row_each}

pub record Long (l : Lent) (units : ℕ) : Type 0 where
  pub measures : series_length ≤ length l.measures
  pub sums : sums_length ≤ length l.sums
  pub figures : figures_length ≤ length l.figures
  pub numbers : units ≤ length l.numbers
  pub homes : units ≤ length l.homes
  pub rows : row_each * units ≤ length l.rows
  pub groups : units ≤ length l.groups
  -- the first unit asks for them
  pub deviations : 1 ≤ units → points ≤ length l.deviations
