-- The book of 'One listing in full' (01), as its values are handed in to be written (02, R-4).
use Rattle.std.specs.Prelude.{List, [], ◌∷◌, ◌++◌, ℕ, zero, suc, ℤ, pos, neg_ℤ, replicate}
use Rattle.rules.specs.Given.{Given}

-- ten quality bytes of 75 good points, for so many records
abbrev pub all_good : ℕ → List ℕ
all_good zero = []
all_good (suc n) = 255 ∷ 255 ∷ 255 ∷ 255 ∷ 255 ∷ 255 ∷ 255 ∷ 255 ∷ 255 ∷ 7 ∷ all_good n

-- a region's row: separation, FM before, generation; payment, used, unused for raise, then for lower
abbrev first_region : List ℤ
first_region = pos 0 ∷ pos 0 ∷ pos 100_000 ∷ pos 0 ∷ pos 0 ∷ neg_ℤ (pos 1_000) ∷ pos 0 ∷ pos 0 ∷ pos 0 ∷ []

-- a unit's: number, region, kind, start, end, group, and the same six; a requirement's: number, set, direction, price, cost, enabled, used
abbrev pub paper_values : Given
paper_values = record {
  smoothing = pos 10_000;
  limit = pos 10;
  percent = pos 20;
  interval = pos 7;
  region_rows = first_region ++ replicate 36 (pos 0);
  region_qualities = all_good 5;
  frequencies = replicate 75 49_980_000 ++ replicate 300 50_000_000;
  units = 2;
  unit_rows =
      pos 1 ∷ pos 0 ∷ pos 0 ∷ pos 10_000 ∷ pos 10_000 ∷ pos 0 ∷ pos 0 ∷ pos 0 ∷ neg_ℤ (pos 1_000) ∷ pos 0 ∷ pos 0 ∷ pos 0
      ∷ pos 2 ∷ pos 0 ∷ pos 1 ∷ pos 5_000 ∷ pos 5_000 ∷ pos 0 ∷ pos 0 ∷ pos 0 ∷ neg_ℤ (pos 1_000) ∷ pos 0 ∷ pos 0 ∷ pos 0
      ∷ [];
  unit_qualities = all_good 2;
  readings = replicate 75 (pos 10_100) ++ replicate 75 (pos 5_030);
  requirements = 1;
  requirement_rows = pos 1 ∷ pos 1 ∷ pos 0 ∷ pos 1_200 ∷ pos 1_000 ∷ pos 1_000 ∷ pos 333 ∷ [];
}
