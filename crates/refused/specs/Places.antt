-- Where a refusal is (02, R-1): each number of a record at a place behind the first, with a t behind the first; books that end early; two faults in one record,
-- in both orders; and faults in two records, of which the earlier is told. The book has regions at 64, 432, 800, 1168 and 1536, units at 1904 and 2276,
-- requirements at 2648 and 2672; what stands before the units is computed once.
use Rattle.std.specs.Prelude.{◌≡◌, refl, [], ◌∷◌, ◌++◌, map, take}
use Rattle.integers.specs.Totals.{all}
use Rattle.books.specs.Computing.{computing}
use Rattle.books.specs.Told.{no}
use Rattle.refused.specs.Changed.{refusal, base, with, all_changed, Each, Together, alone_later, together_later}
use Rattle.refused.specs.FrequenciesTaken.{frequencies_taken, two_units_follow}
use Rattle.refused.specs.UnitsTaken.{units_taken}

-- header (separation, FM before the interval), default, a spare quality bit, a good point out of range and a bad point that holds a value
pub of_a_frequency :
    Each 0 1_904
    (with 1_169 1 2 ∷ with 444 4 5_000_001 ∷ with 1_556 8 1 ∷ with 811 1 9 ∷ with 1_884 4 55_000_001 ∷ with 1_900 4 1 ∷ [])
    (no 71 4 0 ∷ no 71 2 0 ∷ no 72 5 0 ∷ no 73 3 0 ∷ no 74 5 71 ∷ no 74 5 75 ∷ [])
unfolding computing
of_a_frequency = record { refusals = refl }

-- header, default, a spare quality bit, a reading, a number that does not rise; a group number in the two bytes after the quality bits is taken, and 1 is that
-- of the requirement, of which no byte is there
pub of_a_unit :
    Each 1_904 2_648
    (with 2_278 1 5 ∷ with 2_328 8 1 ∷ with 2_345 1 135 ∷ with 2_346 2 256 ∷ with 2_640 4 100_001 ∷ with 2_276 2 258 ∷ [])
    (no 81 2 0 ∷ no 82 2 0 ∷ no 83 2 0 ∷ no 1 1 0 ∷ no 84 2 74 ∷ no 9 2 0 ∷ [])
unfolding computing all
of_a_unit = alone_later two_units_follow refl refl

pub of_a_requirement : Each 2_648 2_696 (with 2_674 1 32 ∷ with 2_672 2 513 ∷ []) (no 10 2 0 ∷ no 10 2 0 ∷ [])
unfolding computing all
of_a_requirement = alone_later units_taken refl refl

-- 4 is the last requirement's
pub bytes_follow : refusal (base ++ (0 ∷ [])) ≡ no 4 2 0
unfolding computing
bytes_follow = refl

-- a book that ends early is refused at the record that was to be taken, also where no byte of it is left; in the table there is none
pub ends_early :
    map (λ size. refusal (take size base)) (55 ∷ 56 ∷ 63 ∷ 64 ∷ 1_535 ∷ 1_536 ∷ 1_904 ∷ [])
    ≡ (no 1 0 0 ∷ no 1 1 0 ∷ no 1 1 0 ∷ no 1 1 0 ∷ no 1 4 0 ∷ no 1 5 0 ∷ no 1 1 0 ∷ [])
unfolding computing
ends_early = refl

pub ends_before_the_second_unit : Together 1_904 2_276 (no 1 2 0) []
unfolding computing all_changed
ends_before_the_second_unit = together_later frequencies_taken refl refl

pub ends_before_the_requirements : Together 1_904 2_648 (no 1 1 0) []
unfolding computing all_changed
ends_before_the_requirements = together_later two_units_follow refl refl

-- ---- two faults in one frequency record: by place, the first point of two
pub separation_and_quality : Together 0 800 (no 71 2 0) (with 433 1 2 ∷ with 443 1 10 ∷ [])
unfolding computing all_changed
separation_and_quality = record { refusal_is = refl }

pub quality_and_measure : Together 0 800 (no 73 2 0) (with 443 1 10 ∷ with 444 4 5_000_001 ∷ [])
unfolding computing all_changed
quality_and_measure = record { refusal_is = refl }

pub measure_and_default : Together 0 800 (no 71 2 0) (with 444 4 5_000_001 ∷ with 452 8 1 ∷ [])
unfolding computing all_changed
measure_and_default = record { refusal_is = refl }

pub default_and_point : Together 0 800 (no 72 2 0) (with 452 8 1 ∷ with 504 4 0 ∷ [])
unfolding computing all_changed
default_and_point = record { refusal_is = refl }

pub two_points : Together 0 800 (no 74 2 11) (with 540 4 44_999_999 ∷ with 792 4 0 ∷ [])
unfolding computing all_changed
two_points = record { refusal_is = refl }

-- ---- in one unit
pub header_and_default : Together 1_904 2_648 (no 81 2 0) (with 2_278 1 5 ∷ with 2_288 8 1 ∷ [])
unfolding computing all_changed
header_and_default = together_later two_units_follow refl refl

pub default_and_quality : Together 1_904 2_648 (no 82 2 0) (with 2_288 8 1 ∷ with 2_345 1 135 ∷ [])
unfolding computing all_changed
default_and_quality = together_later two_units_follow refl refl

pub quality_and_reading : Together 1_904 2_648 (no 83 2 0) (with 2_345 1 135 ∷ with 2_348 4 100_001 ∷ [])
unfolding computing all_changed
quality_and_reading = together_later two_units_follow refl refl

pub two_readings : Together 1_904 2_648 (no 84 2 2) (with 2_352 4 100_001 ∷ with 2_644 4 100_001 ∷ [])
unfolding computing all_changed
two_readings = together_later two_units_follow refl refl

-- ---- in two records: the later never hides the earlier
pub settings_and_region : Together 0 432 (no 6 1 0) (with 56 2 0 ∷ with 65 1 2 ∷ [])
unfolding computing all_changed
settings_and_region = record { refusal_is = refl }

pub region_and_unit : Together 0 2_276 (no 74 5 71) (with 1_884 4 55_000_001 ∷ with 1_906 1 5 ∷ [])
unfolding computing all_changed
region_and_unit = record { refusal_is = refl }

pub two_units : Together 1_904 2_648 (no 84 1 75) (with 2_272 4 100_001 ∷ with 2_278 1 5 ∷ [])
unfolding computing all_changed
two_units = together_later two_units_follow refl refl

pub unit_and_requirement : Together 0 2_672 (no 9 2 0) (with 2_276 2 258 ∷ with 2_650 1 0 ∷ [])
unfolding computing all_changed
unit_and_requirement = record { refusal_is = refl }

pub two_requirements : Together 2_648 2_696 (no 10 1 0) (with 2_650 1 0 ∷ with 2_674 1 0 ∷ [])
unfolding computing all_changed
two_requirements = together_later units_taken refl refl
