-- What the book writer refuses in units and requirements (02, R-4), with number, place and t: every number that it can give there, also for a number that does
-- not fit its field, and two faults in both orders.
use Rattle.std.specs.Prelude.{refl, [], ◌∷◌, pos}
use Rattle.integers.specs.Totals.{all}
use Rattle.books.specs.Computing.{computing}
use Rattle.books.specs.Told.{no}
use Rattle.refused.specs.HandedIn.{
  below,
  unit,
  unit_byte,
  reading,
  requirement,
  with_all,
  PutEach,
  PutAlone,
  PutTogether,
}
use Rattle.refused.specs.RegionsTaken.{computed_behind}

-- ---- units: region, kind, start, end, a default, a spare quality bit, a group over 65,535, a reading, a number that does not rise
pub of_a_unit :
    PutEach
    (unit 3 1 (pos 5) ∷ unit 2 2 (pos 2) ∷ unit 3 3 (pos 100_001) ∷ unit 2 4 (below 100_001) ∷ unit 3 11 (pos 1) ∷ unit_byte 2 9 (pos 135)
    ∷ unit 3 5 (pos 65_536) ∷ reading 3 74 (below 100_001) ∷ unit_byte 2 0 (pos 253) ∷ unit 3 0 (pos 2)
    ∷ [])
    (no 81 3 0 ∷ no 81 2 0 ∷ no 81 3 0 ∷ no 81 2 0 ∷ no 82 3 0 ∷ no 83 2 0 ∷ no 83 3 0 ∷ no 84 3 74 ∷ no 84 2 2 ∷ no 9 3 0 ∷ [])
unfolding computing with_all all
of_a_unit = computed_behind refl refl

-- numbers that do not fit: region, kind, start and end; group; number
pub wide_in_a_unit :
    PutEach
    (unit 2 1 (pos 256) ∷ unit 3 1 (below 1) ∷ unit 2 2 (pos 256) ∷ unit 2 3 (pos 0x100000000) ∷ unit 2 4 (below 0x100000000) ∷ unit 3 5 (below 1)
    ∷ unit 3 0 (pos 65_536) ∷ unit 3 0 (below 1) ∷ unit 3 0 (pos 65_539)
    ∷ [])
    (no 81 2 0 ∷ no 81 3 0 ∷ no 81 2 0 ∷ no 81 2 0 ∷ no 81 2 0 ∷ no 83 3 0 ∷ no 9 3 0 ∷ no 9 3 0 ∷ no 9 3 0 ∷ [])
unfolding computing with_all all
wide_in_a_unit = computed_behind refl refl

-- a group in two regions; one that returns; one with a default off the primary; the same in one region, and no group, are taken
pub of_a_group :
    PutTogether
    ((unit 2 5 (pos 9) ∷ unit 3 5 (pos 9) ∷ [])
    ∷ (unit 1 5 (pos 9) ∷ unit 3 5 (pos 9) ∷ [])
    ∷ (unit 1 5 (pos 9) ∷ unit 2 5 (pos 9) ∷ [])
    ∷ (unit 2 5 (pos 9) ∷ unit 3 5 (pos 9) ∷ unit 3 1 (pos 0) ∷ [])
    ∷ []
    ∷ [])
    (no 16 3 0 ∷ no 16 3 0 ∷ no 16 2 0 ∷ no 0 0 0 ∷ no 0 0 0 ∷ [])
unfolding computing with_all all
of_a_group = computed_behind refl refl

-- ---- requirements: number, set, direction, price, cost, enabled, used
pub of_a_requirement :
    PutAlone (no 10 2 0)
    (requirement 2 0 (pos 1) ∷ requirement 2 1 (pos 0) ∷ requirement 2 2 (pos 2) ∷ requirement 2 3 (pos 10_000_001) ∷ requirement 2 4 (pos 1_000_000_000_001)
    ∷ requirement 2 5 (pos 2_000_001) ∷ requirement 2 6 (pos 2_000_001)
    ∷ [])
unfolding computing with_all all
of_a_requirement = computed_behind refl refl

pub wide_in_a_requirement :
    PutAlone (no 10 2 0)
    (requirement 2 0 (pos 65_536) ∷ requirement 2 0 (pos 65_538) ∷ requirement 2 1 (pos 257) ∷ requirement 2 2 (pos 256) ∷ requirement 2 3 (pos 0x100000000)
    ∷ requirement 2 4 (below 1) ∷ requirement 2 5 (pos 0x100000000) ∷ requirement 2 6 (pos 0x100000000)
    ∷ [])
unfolding computing with_all all
wide_in_a_requirement = computed_behind refl refl

-- ---- in one unit: 81, 82, 83, 84, then 9, then 16; a group that is too large is 83, before a reading and behind a default
pub in_one_unit :
    PutTogether
    ((unit 2 6 (pos 1) ∷ unit 2 4 (pos 0x100000000) ∷ [])
    ∷ (reading 2 75 (pos 100_001) ∷ unit 2 6 (pos 1) ∷ [])
    ∷ (reading 2 75 (pos 100_001) ∷ unit 2 5 (pos 65_536) ∷ [])
    ∷ (unit 2 5 (pos 65_536) ∷ unit 2 11 (pos 1) ∷ [])
    ∷ (unit 2 0 (pos 1) ∷ reading 2 75 (pos 100_001) ∷ [])
    ∷ (unit 2 5 (pos 9) ∷ unit 3 5 (pos 9) ∷ unit 3 0 (pos 2) ∷ [])
    ∷ (unit 2 5 (pos 9) ∷ unit 3 5 (pos 9) ∷ unit 3 0 (pos 65_536) ∷ [])
    ∷ [])
    (no 81 2 0 ∷ no 82 2 0 ∷ no 83 2 0 ∷ no 82 2 0 ∷ no 84 2 75 ∷ no 9 3 0 ∷ no 9 3 0 ∷ [])
unfolding computing with_all all
in_one_unit = computed_behind refl refl

-- ---- in two records, in both orders: the earlier is told
pub in_two_units :
    PutTogether
    ((unit 2 6 (pos 1) ∷ unit 3 1 (pos 256) ∷ [])
    ∷ (unit 2 1 (pos 256) ∷ unit 3 6 (pos 1) ∷ [])
    ∷ (unit 2 0 (pos 1) ∷ unit 3 1 (pos 256) ∷ [])
    ∷ (unit 2 1 (pos 256) ∷ unit 3 0 (pos 1) ∷ [])
    ∷ [])
    (no 82 2 0 ∷ no 81 2 0 ∷ no 9 2 0 ∷ no 81 2 0 ∷ [])
unfolding computing with_all all
in_two_units = computed_behind refl refl
