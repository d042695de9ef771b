-- The numbers that the box can say no with (01), each by its name. Two of them come with no book: 11 is a call's alone, and 12 comes with a call or a share
-- whose room is too short (ShareLimits). None has the number 7, 8 or 13 (`laws`, never-again); 14 and 17 are those of a week (02, R-7), 15 and 18 of a report
-- (02, R-11).
use Rattle.std.specs.Prelude.{◌≡◌, refl, [], ◌∷◌, map}
use Rattle.rules.specs.declared.Refusal.TheVariants.{
  EndsEarly,
  WrongMark,
  WrongTable,
  BytesFollow,
  WrongCount,
  SettingsField,
  UnitNotRising,
  RequirementField,
  WrongState,
  TooShort,
  AverageTooLow,
  YearPast,
  WrongWeek,
  WrongGroup,
  WrongRow,
  FrequencyHeader,
  FrequencyDefault,
  FrequencyQuality,
  FrequencyPoint,
  UnitHeader,
  UnitDefault,
  UnitQuality,
  UnitReading,
}
use Rattle.rules.specs.Refusals.{number, point}

-- of the bytes, from the first to the last body, and of a group (02, R-5)
pub of_a_book :
    map number
    (EndsEarly ∷ WrongMark ∷ WrongTable ∷ BytesFollow ∷ WrongCount ∷ SettingsField ∷ UnitNotRising ∷ RequirementField ∷ WrongGroup ∷ [])
    ≡ (1 ∷ 2 ∷ 3 ∷ 4 ∷ 5 ∷ 6 ∷ 9 ∷ 10 ∷ 16 ∷ [])
of_a_book = refl

-- of a frequency record and of a unit, header, default, quality and point or reading, which say their t
pub of_a_frequency : map number (FrequencyHeader ∷ FrequencyDefault ∷ FrequencyQuality ∷ FrequencyPoint 9 ∷ []) ≡ (71 ∷ 72 ∷ 73 ∷ 74 ∷ [])
of_a_frequency = refl

pub of_a_unit : map number (UnitHeader ∷ UnitDefault ∷ UnitQuality ∷ UnitReading 9 ∷ []) ≡ (81 ∷ 82 ∷ 83 ∷ 84 ∷ [])
of_a_unit = refl

pub points : map point (FrequencyPoint 9 ∷ UnitReading 75 ∷ UnitHeader ∷ WrongState ∷ WrongGroup ∷ []) ≡ (9 ∷ 75 ∷ 0 ∷ 0 ∷ 0 ∷ [])
points = refl

pub of_a_call : map number (WrongState ∷ TooShort ∷ []) ≡ (11 ∷ 12 ∷ [])
of_a_call = refl

pub of_a_week : map number (AverageTooLow ∷ WrongWeek ∷ []) ≡ (14 ∷ 17 ∷ [])
of_a_week = refl

pub of_a_report : map number (YearPast ∷ WrongRow 7 ∷ []) ≡ (15 ∷ 18 ∷ [])
of_a_report = refl

pub columns : map point (YearPast ∷ WrongRow 1 ∷ WrongRow 7 ∷ []) ≡ (0 ∷ 1 ∷ 7 ∷ [])
columns = refl
