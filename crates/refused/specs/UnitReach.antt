-- What a unit can reach (01, Numbers the box can say no with): the limits that a tally's sums have for each unit taken are what the largest unit has.
use Rattle.std.specs.Prelude.{◌≡◌, refl, true, pos, neg_ℤ}
use Rattle.rules.specs.declared.Direction.TheVariants.{Raise}
use Rattle.rules.specs.declared.Kind.TheVariants.{Generation}
use Rattle.rules.specs.Quantities.{measure_limit, lowest_frequency, highest_frequency, deviation_limit, performance_limit}
use Rattle.rules.specs.Book.{Unit}
use Rattle.rules.specs.Measure.{smoothed}
use Rattle.rules.specs.Deviation.{deviation}
use Rattle.rules.specs.Performance.{performance}
use Rattle.books.specs.Writing.{flat}
use Rattle.books.specs.PaperBook.{zeros}
use Rattle.books.specs.Computing.{computing}

-- a flat trajectory at the lowest power, and the highest readings
abbrev largest : Unit
largest =
    record {
      number = 1;
      region = 0;
      kind = Generation;
      start = neg_ℤ (pos 100_000);
      end = neg_ℤ (pos 100_000);
      defaults = zeros;
      quality = flat true;
      group = 0;
      reading = flat (pos 100_000);
    }

-- the lowest frequency gives the largest FM, the highest the lowest
pub record UnitReach : Type 0 where
  pub measure_reached : smoothed 10_000 (pos 0) 45_000_000 ≡ pos 5_000_000
  pub measure_limited : pos measure_limit ≡ smoothed 10_000 (pos 0) lowest_frequency
  pub measure_mirrored : neg_ℤ (pos measure_limit) ≡ smoothed 10_000 (pos 0) highest_frequency
  pub deviation_reached : deviation largest 74 ≡ pos 15_000_000
  pub deviation_limited : pos deviation_limit ≡ deviation largest 74
  pub performance_reached : performance Raise (λ t. pos 5_000_000) (deviation largest) ≡ pos 5_625_000_000_000_000
  pub performance_limited : pos performance_limit ≡ performance Raise (λ t. pos 5_000_000) (deviation largest)

pub unit_reach : UnitReach
unfolding computing
unit_reach =
    record {
      measure_reached = refl;
      measure_limited = refl;
      measure_mirrored = refl;
      deviation_reached = refl;
      deviation_limited = refl;
      performance_reached = refl;
      performance_limited = refl;
    }
