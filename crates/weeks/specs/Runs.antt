-- Records that a run of calls leaves: no more live than seen, and a total that so many live ones can reach.
use Rattle.std.specs.Prelude.{Bool, ◌&&◌, ℕ, ◌*◌, ◌≤◌, ◌<◌, leb}
use Rattle.rules.specs.declared.Refusal.TheVariants.{WrongWeek}
use Rattle.rules.specs.declared.RunningWeek.{RunningWeek}
use Rattle.rules.specs.declared.Whose.{Whose}
use Rattle.rules.specs.declared.Whose.TheVariants as whose
use Rattle.rules.specs.Quantities.{most_units}
use Rattle.rules.specs.Refusals.{Reply, taken, unless}
use Rattle.rules.specs.Week.{Interval, within, most_intervals}
use Rattle.rules.specs.RunningWeek.{base, total_in, with_interval}

-- what the test says
pub record Run (r : RunningWeek) : Type 0 where
  pub counted : r.live ≤ r.seen
  pub short : r.seen ≤ most_intervals
  pub small : r.low < base
  pub reached : total_in r ≤ r.live * base

-- one interval more, or 17 where a live performance is past a limit
abbrev pub more_reply : ℕ → RunningWeek → Interval → Reply RunningWeek
more_reply limit r x = unless (within limit x) WrongWeek (taken (with_interval r x))

-- how many units a member reaches as far as: by it a member is tested, and its reach worked out, as those of a group of so many
abbrev pub units_of : Whose → ℕ
units_of whose.Unit = 1
units_of (whose.Group k) = k
units_of whose.Residual = most_units

abbrev pub units_fine : ℕ → Bool
units_fine k = leb 1 k && leb k most_units
