-- The numbers that the box can say no with (01, Numbers the box can say no with; 02, R-1), where a refusal is, and an answer that may be a refusal.
use Rattle.std.specs.Prelude.{Bool, cond, ℕ, eqb}
use Rattle.rules.specs.declared.Refusal.{Refusal}
use Rattle.rules.specs.declared.Refusal.TheVariants.{
  EndsEarly,
  WrongMark,
  WrongTable,
  BytesFollow,
  WrongCount,
  SettingsField,
  UnitNotRising,
  RequirementField,
  WrongState,
  TooShort,
  AverageTooLow,
  YearPast,
  WrongGroup,
  WrongWeek,
  WrongRow,
  FrequencyHeader,
  FrequencyDefault,
  FrequencyQuality,
  FrequencyPoint,
  UnitHeader,
  UnitDefault,
  UnitQuality,
  UnitReading,
}
use Rattle.rules.specs.declared.Located.{Located}

-- each given exactly when
abbrev pub number : Refusal → ℕ
-- the bytes end before the 56, or before the end of the record that the call takes
number EndsEarly = 1
-- the mark differs
number WrongMark = 2
-- a table entry, the entry count or the zero field is wrong
number WrongTable = 3
-- bytes follow the last body
number BytesFollow = 4
-- an item count is over or under its limit; in a share, T or W is over
number WrongCount = 5
-- a settings field breaks its rule
number SettingsField = 6
-- 7 and 8 are nobody's any more: they fell apart into 71 to 74 and 81 to 84 (02, R-1)
-- a unit number does not rise
number UnitNotRising = 9
-- a requirement field breaks its rule, or its number does not rise
number RequirementField = 10
-- a call out of turn, or a tally out of range
number WrongState = 11
-- a lent buffer is too short for its answer
number TooShort = 12
-- 13 is nobody's: no share could meet it (02, R-10), and it is not given again
-- the average of a week is below the limit of its book field (02, R-7)
number AverageTooLow = 14
-- the interval ends past the year 9999 (02, R-11)
number YearPast = 15
-- a group that is split, in two regions, or with a default off the primary (02, R-5)
number WrongGroup = 16
-- a week of more than 2,016 intervals, or a live performance that no such member can have (02, R-7)
number WrongWeek = 17
-- a row of the report that the writer never makes, with its first wrong column (02, R-11)
number (WrongRow column) = 18
-- a frequency record's header, default, quality or point breaks its rule
number FrequencyHeader = 71
number FrequencyDefault = 72
number FrequencyQuality = 73
number (FrequencyPoint t) = 74
-- a unit's header, default, quality or reading breaks its rule
number UnitHeader = 81
number UnitDefault = 82
number UnitQuality = 83
number (UnitReading t) = 84

-- for a refused point or reading also t, 1 to 75, and for a report's row the column; 0 where there is none
abbrev pub point : Refusal → ℕ
point EndsEarly = 0
point WrongMark = 0
point WrongTable = 0
point BytesFollow = 0
point WrongCount = 0
point SettingsField = 0
point UnitNotRising = 0
point RequirementField = 0
point WrongState = 0
point TooShort = 0
point AverageTooLow = 0
point YearPast = 0
point WrongGroup = 0
point WrongWeek = 0
point (WrongRow column) = column
point FrequencyHeader = 0
point FrequencyDefault = 0
point FrequencyQuality = 0
point (FrequencyPoint t) = t
point UnitHeader = 0
point UnitDefault = 0
point UnitQuality = 0
point (UnitReading t) = t

-- a record's refusal names its place in the body, from 1; 11 has none
abbrev pub located : ℕ → Refusal → Located
located place r = record { refusal = r; place = cond (eqb (number r) 11) 0 place }

-- ---- an answer: what is asked for, or the refusal alone
pub data ReplyOf (R A : Type 0) : Type 0 where
  taken : A → ReplyOf R A
  refused : R → ReplyOf R A

-- a record's or a call's own
abbrev pub Reply : Type 0 → Type 0
Reply A = ReplyOf Refusal A

-- a book's: where it is refused, with the place
abbrev pub LocatedReply : Type 0 → Type 0
LocatedReply A = ReplyOf Located A

-- a record at a place of its body; at 0 it is none of a body's
abbrev pub at : {A : Type 0} → ℕ → Reply A → LocatedReply A
at place (taken a) = taken a
at place (refused r) = refused (located place r)

-- a test that has to hold, the refusal where it does not, and what comes after it
abbrev pub unless : {R A : Type 0} → Bool → R → ReplyOf R A → ReplyOf R A
unless test refusal rest = cond test rest (refused refusal)

-- the first refusal is the answer
infixl 1 ◌>>=◌
abbrev pub ◌>>=◌ : {R A B : Type 0} → ReplyOf R A → (A → ReplyOf R B) → ReplyOf R B
◌>>=◌ (taken a) f = f a
◌>>=◌ (refused r) f = refused r
