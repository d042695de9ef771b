-- What `refusal_number`, `refusal_point` and `locate` promise, and that no two answers are allowed; that no refusal is told as taken, and that none has
-- the number 7, 8 or 13.
use mathlib.Core.Path.{◌≡◌, sym, ◌∙◌}
use Prim.Native.Nat.{ℕ, ◌<◌}
use native.Mathlib.Omega.{arith}
use Rattle.rules.specs.declared.Refusal.{Refusal}
use Rattle.rules.specs.declared.Refusal.TheVariants.{
  EndsEarly,
  WrongMark,
  WrongTable,
  BytesFollow,
  WrongCount,
  SettingsField,
  UnitNotRising,
  RequirementField,
  WrongState,
  TooShort,
  AverageTooLow,
  YearPast,
  WrongGroup,
  WrongWeek,
  WrongRow,
  FrequencyHeader,
  FrequencyDefault,
  FrequencyQuality,
  FrequencyPoint,
  UnitHeader,
  UnitDefault,
  UnitQuality,
  UnitReading,
}
use Rattle.rules.specs.declared.Located.{Located}
use Rattle.rules.specs.Refusals.{number, point, located}

pub refusal_number_only : (refusal : Refusal) {r r' : ℕ} → r ≡ number refusal → r' ≡ number refusal → r ≡ r'
refusal_number_only refusal a b = a ∙ sym b

pub refusal_point_only : (refusal : Refusal) {r r' : ℕ} → r ≡ point refusal → r' ≡ point refusal → r ≡ r'
refusal_point_only refusal a b = a ∙ sym b

pub locate_only : (place : ℕ) (refusal : Refusal) {r r' : Located} → r ≡ located place refusal → r' ≡ located place refusal → r ≡ r'
locate_only place refusal a b = a ∙ sym b

-- the numbers that may be told: 0 stands for no refusal; 7 and 8 fell apart (02, R-1), and 13 was taken out (02, R-10). None needs more than 32 bits
pub record Tellable (n : ℕ) : Type 0 where
  pub some : 0 < n
  pub few : n < 100
  pub no_seven : n ≡ 7 → ⊥
  pub no_eight : n ≡ 8 → ⊥
  pub no_thirteen : n ≡ 13 → ⊥

pub tellable : (r : Refusal) → Tellable (number r)
tellable EndsEarly = record { some = omega arith; few = omega arith; no_seven = λ e. omega arith; no_eight = λ e. omega arith; no_thirteen = λ e. omega arith }
tellable WrongMark = record { some = omega arith; few = omega arith; no_seven = λ e. omega arith; no_eight = λ e. omega arith; no_thirteen = λ e. omega arith }
tellable WrongTable = record { some = omega arith; few = omega arith; no_seven = λ e. omega arith; no_eight = λ e. omega arith; no_thirteen = λ e. omega arith }
tellable BytesFollow = record { some = omega arith; few = omega arith; no_seven = λ e. omega arith; no_eight = λ e. omega arith; no_thirteen = λ e. omega arith }
tellable WrongCount = record { some = omega arith; few = omega arith; no_seven = λ e. omega arith; no_eight = λ e. omega arith; no_thirteen = λ e. omega arith }
tellable SettingsField = record { some = omega arith; few = omega arith; no_seven = λ e. omega arith; no_eight = λ e. omega arith; no_thirteen = λ e. omega arith }
tellable UnitNotRising = record { some = omega arith; few = omega arith; no_seven = λ e. omega arith; no_eight = λ e. omega arith; no_thirteen = λ e. omega arith }
tellable RequirementField = record { some = omega arith; few = omega arith; no_seven = λ e. omega arith; no_eight = λ e. omega arith; no_thirteen = λ e. omega arith }
tellable WrongState = record { some = omega arith; few = omega arith; no_seven = λ e. omega arith; no_eight = λ e. omega arith; no_thirteen = λ e. omega arith }
tellable TooShort = record { some = omega arith; few = omega arith; no_seven = λ e. omega arith; no_eight = λ e. omega arith; no_thirteen = λ e. omega arith }
tellable AverageTooLow = record { some = omega arith; few = omega arith; no_seven = λ e. omega arith; no_eight = λ e. omega arith; no_thirteen = λ e. omega arith }
tellable YearPast = record { some = omega arith; few = omega arith; no_seven = λ e. omega arith; no_eight = λ e. omega arith; no_thirteen = λ e. omega arith }
tellable WrongGroup = record { some = omega arith; few = omega arith; no_seven = λ e. omega arith; no_eight = λ e. omega arith; no_thirteen = λ e. omega arith }
tellable WrongWeek = record { some = omega arith; few = omega arith; no_seven = λ e. omega arith; no_eight = λ e. omega arith; no_thirteen = λ e. omega arith }
tellable (WrongRow column) = record { some = omega arith; few = omega arith; no_seven = λ e. omega arith; no_eight = λ e. omega arith; no_thirteen = λ e. omega arith }
tellable FrequencyHeader = record { some = omega arith; few = omega arith; no_seven = λ e. omega arith; no_eight = λ e. omega arith; no_thirteen = λ e. omega arith }
tellable FrequencyDefault = record { some = omega arith; few = omega arith; no_seven = λ e. omega arith; no_eight = λ e. omega arith; no_thirteen = λ e. omega arith }
tellable FrequencyQuality = record { some = omega arith; few = omega arith; no_seven = λ e. omega arith; no_eight = λ e. omega arith; no_thirteen = λ e. omega arith }
tellable (FrequencyPoint t) = record { some = omega arith; few = omega arith; no_seven = λ e. omega arith; no_eight = λ e. omega arith; no_thirteen = λ e. omega arith }
tellable UnitHeader = record { some = omega arith; few = omega arith; no_seven = λ e. omega arith; no_eight = λ e. omega arith; no_thirteen = λ e. omega arith }
tellable UnitDefault = record { some = omega arith; few = omega arith; no_seven = λ e. omega arith; no_eight = λ e. omega arith; no_thirteen = λ e. omega arith }
tellable UnitQuality = record { some = omega arith; few = omega arith; no_seven = λ e. omega arith; no_eight = λ e. omega arith; no_thirteen = λ e. omega arith }
tellable (UnitReading t) = record { some = omega arith; few = omega arith; no_seven = λ e. omega arith; no_eight = λ e. omega arith; no_thirteen = λ e. omega arith }

-- NO REFUSAL HAS THE NUMBER 7, 8 OR 13
pub never_again : (r : Refusal) → (number r ≡ 7 → ⊥) × (number r ≡ 8 → ⊥) × (number r ≡ 13 → ⊥)
never_again r = let t = tellable r in (t.no_seven, t.no_eight, t.no_thirteen)

pub refusal_numbered : (r : Refusal) → 0 < number r
refusal_numbered r = (tellable r).some
