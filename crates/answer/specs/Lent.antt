-- Lists that are long enough for what they keep, by the test of their lengths.
use Rattle.std.specs.Prelude.{ℕ, ◌*◌, ◌≤◌, length}
use Rattle.rules.specs.Quantities.{most_units}
use Rattle.interval.specs.Lent.{Lent, series_length, sums_length, figures_length, row_each}

pub record Long (units : ℕ) (l : Lent) : Type 0 where
  pub few : units ≤ most_units
  pub measures : series_length ≤ length l.measures
  pub sums : sums_length ≤ length l.sums
  pub figures : figures_length ≤ length l.figures
  pub homes : units ≤ length l.homes
  pub rows : row_each * units ≤ length l.rows
