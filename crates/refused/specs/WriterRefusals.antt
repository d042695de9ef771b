-- What the book writer refuses (02, R-4), with number, place and t: by the counts, in the settings and in the regions, each also for a number that does not fit
-- its field, and two faults in both orders. WriterUnits has units and requirements.
use Rattle.std.specs.Prelude.{◌≡◌, refl, [], ◌∷◌, map, ℕ, ◌*◌, pos, replicate, take}
use Rattle.rules.specs.Given.{Given}
use Rattle.rules.specs.Written.{written}
use Rattle.books.specs.Computing.{computing}
use Rattle.books.specs.Told.{no, told}
use Rattle.refused.specs.HandedIn.{
  base,
  below,
  setting,
  region,
  region_byte,
  frequency,
  unit,
  requirement,
  with_all,
  PutEach,
  PutAlone,
  PutTogether,
}

-- ---- 12 and 5, by the counts as given: the numbers are not looked at
-- the lists cut to so many numbers
abbrev cut : (region_rows region_qualities frequencies unit_rows unit_qualities readings requirement_rows : ℕ) → Given
cut region_rows region_qualities frequencies unit_rows unit_qualities readings requirement_rows = record {
  smoothing = base.smoothing;
  limit = base.limit;
  percent = base.percent;
  interval = base.interval;
  region_rows = take region_rows base.region_rows;
  region_qualities = take region_qualities base.region_qualities;
  frequencies = take frequencies base.frequencies;
  units = 3;
  unit_rows = take unit_rows base.unit_rows;
  unit_qualities = take unit_qualities base.unit_qualities;
  readings = take readings base.readings;
  requirements = 2;
  requirement_rows = take requirement_rows base.requirement_rows;
}

pub too_short :
    map (λ g. told (written g 3_068))
    (cut 44 50 375 36 30 225 14
    ∷ cut 45 49 375 36 30 225 14
    ∷ cut 45 50 374 36 30 225 14
    ∷ cut 45 50 375 35 30 225 14
    ∷ cut 45 50 375 36 29 225 14
    ∷ cut 45 50 375 36 30 224 14
    ∷ cut 45 50 375 36 30 225 13
    ∷ [])
    ≡ replicate 7 (no 12 0 0)
unfolding computing
too_short = refl

-- so many units and requirements, of zeros, in lists that are long enough for so many
abbrev counted : ℕ → ℕ → ℕ → ℕ → Given
counted units requirements long_for long_for' = record {
  smoothing = base.smoothing;
  limit = base.limit;
  percent = base.percent;
  interval = base.interval;
  region_rows = base.region_rows;
  region_qualities = base.region_qualities;
  frequencies = base.frequencies;
  units = units;
  unit_rows = replicate (12 * long_for) (pos 0);
  unit_qualities = replicate (10 * long_for) 0;
  readings = replicate (75 * long_for) (pos 0);
  requirements = requirements;
  requirement_rows = replicate (7 * long_for') (pos 0);
}

-- the buffer's last byte, and 12 before 5: 513 units in too short a buffer or list are 12, in long enough ones 5; so are 33 requirements; none are 5
pub by_the_counts :
    told (written (counted 3 2 3 2) 3_067) ∷ told (written (counted 513 2 0 2) 192_787) ∷ told (written (counted 513 2 512 2) 192_788) ∷ told (written
    (counted 0 33 0 33) 2_695) ∷ told (written (counted 0 33 0 32) 2_696) ∷ []
    ≡ replicate 5 (no 12 0 0)
unfolding computing
by_the_counts = refl

pub counts_over :
    told (written (counted 513 2 513 2) 192_788) ∷ told (written (counted 0 33 0 33) 2_696) ∷ told (written (counted 3 0 3 0) 3_020) ∷ []
    ≡ replicate 3 (no 5 0 0)
unfolding computing
counts_over = refl

-- the most that there can be are not over
pub counts_at_most :
    told (written (counted 512 1 512 1) 192_392) ∷ told (written (counted 0 32 0 32) 2_672) ∷ []
    ≡ (no 9 2 0 ∷ no 10 1 0 ∷ [])
unfolding computing
counts_at_most = refl

-- ---- the settings: a 1 to 10,000, limit 0 to 75, percent 0 to 100; a number below zero or of more bytes than its field breaks the same rule
pub of_the_settings :
    PutAlone (no 6 1 0)
    (setting 0 (pos 0) ∷ setting 0 (pos 10_001) ∷ setting 0 (pos 65_537) ∷ setting 1 (pos 76) ∷ setting 1 (pos 256) ∷ setting 1 (below 1) ∷ setting 2 (pos 101)
    ∷ setting 2 (pos 256) ∷ setting 2 (below 1) ∷ setting 3 (pos 0x100000000) ∷ setting 3 (below 1)
    ∷ [])
unfolding computing with_all
of_the_settings = record { refusals = refl }

-- ---- regions: separation, a spare quality bit, FM before and generation, a default, a good point out of range and a bad point that holds a value
pub of_a_region :
    PutEach
    (region 4 0 (pos 2) ∷ region_byte 3 9 (pos 15) ∷ region 2 1 (pos 5_000_001) ∷ region 5 2 (pos 2_000_001) ∷ region 5 8 (pos 1)
    ∷ frequency 4 75 (pos 55_000_001) ∷ region_byte 5 8 (pos 127)
    ∷ [])
    (no 71 4 0 ∷ no 73 3 0 ∷ no 71 2 0 ∷ no 71 5 0 ∷ no 72 5 0 ∷ no 74 4 75 ∷ no 74 5 72 ∷ [])
unfolding computing with_all
of_a_region = record { refusals = refl }

-- numbers that do not fit: separation; FM before, generation
pub wide_in_a_region :
    PutAlone (no 71 2 0)
    (region 2 0 (pos 256) ∷ region 2 0 (below 1) ∷ region 2 1 (pos 0x100000000) ∷ region 2 1 (below 0x100000000) ∷ region 2 2 (pos 0x100000000)
    ∷ region 2 2 (below 1)
    ∷ [])
unfolding computing with_all
wide_in_a_region = record { refusals = refl }

-- ---- two faults in one region: 71 (separation), 73, 71 (FM before, generation), 72, 74
pub in_one_region :
    PutTogether
    ((region_byte 2 9 (pos 15) ∷ region 2 0 (pos 256) ∷ [])
    ∷ (region 2 2 (below 1) ∷ region_byte 2 9 (pos 15) ∷ [])
    ∷ (region 2 3 (pos 1) ∷ region 2 1 (pos 0x100000000) ∷ [])
    ∷ (frequency 2 1 (pos 0) ∷ region 2 8 (pos 1) ∷ [])
    ∷ (frequency 2 75 (pos 0) ∷ frequency 2 60 (pos 0) ∷ [])
    ∷ [])
    (no 71 2 0 ∷ no 73 2 0 ∷ no 71 2 0 ∷ no 72 2 0 ∷ no 74 2 60 ∷ [])
unfolding computing with_all
in_one_region = record { refusals = refl }

-- ---- in records of two bodies: the earlier is told
pub in_two_bodies :
    PutTogether
    ((region 1 0 (pos 2) ∷ setting 3 (below 1) ∷ [])
    ∷ (unit 1 1 (pos 5) ∷ frequency 5 75 (pos 0) ∷ [])
    ∷ (requirement 1 1 (pos 0) ∷ unit 3 0 (pos 2) ∷ [])
    ∷ (requirement 1 4 (below 1) ∷ requirement 2 1 (pos 0) ∷ [])
    ∷ [])
    (no 6 1 0 ∷ no 74 5 75 ∷ no 9 3 0 ∷ no 10 1 0 ∷ [])
unfolding computing with_all
in_two_bodies = record { refusals = refl }
