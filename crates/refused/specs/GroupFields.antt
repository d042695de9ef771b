-- A group of two units (02, R-5), at 1904 and 2276: in one region and in two, each default off the primary, and what is told where the second unit has a fault
-- of its own as well: every number of a field precedes 9, and 9 precedes 16. A record that is taken gives 1 at the requirement, of which no byte is there.
use Rattle.std.specs.Prelude.{refl, List, [], ◌∷◌}
use Rattle.books.specs.Computing.{computing}
use Rattle.books.specs.Told.{no}
use Rattle.refused.specs.Changed.{Change, with, below, all_changed, Together, together_later}
use Rattle.refused.specs.FrequenciesTaken.{two_units_follow}

-- both units are of group 65,535, in regions 3 and 2, and the second holds no default; the same in one region
abbrev in_two_regions : List Change
in_two_regions = with 1_974 2 65_535 ∷ with 2_346 2 65_535 ∷ with 2_288 48 0 ∷ []

abbrev in_one_region : List Change
in_one_region = with 2_278 1 3 ∷ in_two_regions

pub one_region : Together 1_904 2_648 (no 1 1 0) in_one_region
unfolding computing all_changed
one_region = together_later two_units_follow refl refl

pub two_regions : Together 1_904 2_648 (no 16 2 0) in_two_regions
unfolding computing all_changed
two_regions = together_later two_units_follow refl refl

-- a byte of the group number is another group, which has its own region and defaults
pub other_high_byte : Together 1_904 2_648 (no 1 1 0) (with 2_347 1 254 ∷ in_two_regions)
unfolding computing all_changed
other_high_byte = together_later two_units_follow refl refl

pub other_low_byte : Together 1_904 2_648 (no 1 1 0) (with 2_346 1 254 ∷ in_two_regions)
unfolding computing all_changed
other_low_byte = together_later two_units_follow refl refl

-- payment, used, unused for raise, then for lower
pub record DefaultsOffThePrimary : Type 0 where
  pub raise_payment : Together 1_904 2_648 (no 16 2 0) (below 2_288 8 1 ∷ in_one_region)
  pub raise_used : Together 1_904 2_648 (no 16 2 0) (below 2_296 8 1 ∷ in_one_region)
  pub raise_unused : Together 1_904 2_648 (no 16 2 0) (below 2_304 8 1 ∷ in_one_region)
  pub lower_payment : Together 1_904 2_648 (no 16 2 0) (below 2_312 8 1 ∷ in_one_region)
  pub lower_used : Together 1_904 2_648 (no 16 2 0) (below 2_320 8 1 ∷ in_one_region)
  pub lower_unused : Together 1_904 2_648 (no 16 2 0) (below 2_328 8 5_625_000_000_000_000 ∷ in_one_region)

pub defaults_off_the_primary : DefaultsOffThePrimary
unfolding computing all_changed
defaults_off_the_primary =
    record {
      raise_payment = together_later two_units_follow refl refl;
      raise_used = together_later two_units_follow refl refl;
      raise_unused = together_later two_units_follow refl refl;
      lower_payment = together_later two_units_follow refl refl;
      lower_used = together_later two_units_follow refl refl;
      lower_unused = together_later two_units_follow refl refl;
    }

-- kind 2, a default above 0, a spare quality bit, the last reading, a number that does not rise: each in the record that 16 would be told of
pub record TwoFaults : Type 0 where
  pub header : Together 1_904 2_648 (no 81 2 0) (with 2_279 1 2 ∷ in_two_regions)
  pub default : Together 1_904 2_648 (no 82 2 0) (with 2_328 8 1 ∷ in_two_regions)
  pub quality : Together 1_904 2_648 (no 83 2 0) (with 2_345 1 135 ∷ in_two_regions)
  pub reading : Together 1_904 2_648 (no 84 2 75) (with 2_644 4 100_001 ∷ in_two_regions)
  pub not_rising : Together 1_904 2_648 (no 9 2 0) (with 2_276 2 258 ∷ in_two_regions)
  -- a fault of the first unit comes before all of the second's
  pub first_unit : Together 1_904 2_648 (no 84 1 75) (with 2_272 4 100_001 ∷ in_two_regions)

pub two_faults : TwoFaults
unfolding computing all_changed
two_faults =
    record {
      header = together_later two_units_follow refl refl;
      default = together_later two_units_follow refl refl;
      quality = together_later two_units_follow refl refl;
      reading = together_later two_units_follow refl refl;
      not_rising = together_later two_units_follow refl refl;
      first_unit = together_later two_units_follow refl refl;
    }
