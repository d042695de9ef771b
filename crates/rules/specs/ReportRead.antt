-- A row of the performance report read back (02, R-11). A column is read for what it says, and is right if the writer makes it of that; so the row is taken
-- if it is one that the writer makes, and else its first wrong column is named.
use Rattle.std.specs.Prelude.{Bool, true, false, cond, ◌&&◌, List, [], ◌∷◌, ℕ, zero, suc, ◌+◌, ◌*◌, ◌-◌, ◌/◌, ◌%◌, ◌^◌, eqb, leb, ℤ, pos, neg_ℤ, get_or}
use Rattle.rules.specs.declared.Refusal.TheVariants.{WrongRow}
use Rattle.rules.specs.declared.RegionName.{RegionName}
use Rattle.rules.specs.declared.RegionName.TheVariants.{Qld1, Nsw1, Vic1, Sa1, Tas1}
use Rattle.rules.specs.declared.Reported.{Reported}
use Rattle.rules.specs.declared.Reported.TheVariants.{Unit, Residual}
use Rattle.rules.specs.declared.FigureType.{FigureType}
use Rattle.rules.specs.declared.FigureType.TheVariants.{Calculated, Default}
use Rattle.rules.specs.declared.ReportRow.{ReportRow}
use Rattle.rules.specs.Refusals.{Reply, taken, unless, ◌>>=◌}
use Rattle.rules.specs.Calendar.{last_interval, Moment, interval_to}
use Rattle.rules.specs.ReportRow.{interval_text, whose_text, performance_text, type_text, version_text}

-- ---- the columns: what stands between two commas; the seventh runs to the end. Where no comma is left, the next column is empty, and no right one is
unfoldable pub before_comma : List ℕ → List ℕ
before_comma [] = []
before_comma (b ∷ bs) = cond (eqb b 44) [] (b ∷ before_comma bs)

unfoldable pub behind_comma : List ℕ → List ℕ
behind_comma [] = []
behind_comma (b ∷ bs) = cond (eqb b 44) bs (behind_comma bs)

-- behind so many commas
unfoldable pub behind_commas : ℕ → List ℕ → List ℕ
behind_commas zero bs = bs
behind_commas (suc k) bs = behind_commas k (behind_comma bs)

-- ---- what bytes say
-- the number that their digits make, whatever stands between them
abbrev pub is_digit : ℕ → Bool
is_digit b = leb 48 b && leb b 57

abbrev pub with_digit : ℕ → ℕ → ℕ
with_digit n b = cond (is_digit b) (10 * n + (b - 48)) n

unfoldable pub said_from : ℕ → List ℕ → ℕ
said_from n [] = n
said_from n (b ∷ bs) = said_from (with_digit n b) bs

abbrev pub said : List ℕ → ℕ
said bs = said_from 0 bs

-- below zero if they start with a minus
abbrev pub signed_said : List ℕ → ℤ
signed_said bs = cond (eqb (get_or bs 0 0) 45) (neg_ℤ (pos (said bs))) (pos (said bs))

-- a moment by its fourteen digits, DDMMYYYYHHMMSS
abbrev pub moment_in : ℕ → Moment
moment_in n =
    record {
      date = record { year = n / 10 ^ 6 % 10 ^ 4; month = n / 10 ^ 10 % 10 ^ 2; day = n / 10 ^ 12 };
      hour = n / 10 ^ 4 % 10 ^ 2;
      minute = n / 10 ^ 2 % 10 ^ 2;
    }

abbrev pub interval_said : List ℕ → ℕ
interval_said bs = interval_to (moment_in (said bs))

-- ---- right, if the writer makes it
unfoldable pub same : List ℕ → List ℕ → Bool
same [] [] = true
same [] (c ∷ cs) = false
same (b ∷ bs) [] = false
same (b ∷ bs) (c ∷ cs) = eqb b c && same bs cs

-- what column k says, if that is one that can be written, and written as these bytes
abbrev pub read_as : {A : Type 0} → (A → List ℕ) → ℕ → List ℕ → Bool → A → Reply A
read_as write k bs inside a = unless (inside && same (write a) bs) (WrongRow k) (taken a)

abbrev pub interval_read : ℕ → List ℕ → Reply ℕ
interval_read k bs = let n = interval_said bs in read_as interval_text k bs (leb n last_interval) n

-- a unit's number, and a version, is a u16
abbrev pub number_most : ℕ
number_most = 65_535

-- a region by the first letter of its name, which stands behind the word and a space
abbrev pub region_said : List ℕ → RegionName
region_said bs =
    cond (eqb (get_or bs 9 0) 81) Qld1
    (cond (eqb (get_or bs 9 0) 78) Nsw1 (cond (eqb (get_or bs 9 0) 86) Vic1 (cond (eqb (get_or bs 9 0) 83) Sa1 Tas1)))

-- a residual's begins with the word's first letter, R; all else is a unit's number
abbrev pub whose_read : ℕ → List ℕ → Reply Reported
whose_read k bs =
    cond (eqb (get_or bs 0 0) 82) (read_as whose_text k bs true (Residual (region_said bs)))
    (read_as whose_text k bs (leb (said bs) number_most) (Unit (said bs)))

-- the billionths of a signed 64-bit performance
abbrev pub billionths_most : ℕ
billionths_most = 1_229_782_938_247_303_441

abbrev pub performance_read : ℕ → List ℕ → Reply ℤ
performance_read k bs = read_as performance_text k bs (leb (said bs) billionths_most) (signed_said bs)

abbrev pub type_said : List ℕ → FigureType
type_said bs = cond (eqb (get_or bs 0 0) 67) Calculated Default

abbrev pub type_read : ℕ → List ℕ → Reply FigureType
type_read k bs = read_as type_text k bs true (type_said bs)

abbrev pub version_read : ℕ → List ℕ → Reply ℕ
version_read k bs = read_as version_text k bs (leb (said bs) number_most) (said bs)

-- ---- the row, column by column
abbrev pub column : ℕ → List ℕ → List ℕ
column k bs = before_comma (behind_commas k bs)

unfoldable pub row_read : List ℕ → Reply ReportRow
row_read bs = do
  interval ← interval_read 1 (column 0 bs)
  whose ← whose_read 2 (column 1 bs)
  raise ← performance_read 3 (column 2 bs)
  raise_type ← type_read 4 (column 3 bs)
  lower ← performance_read 5 (column 4 bs)
  lower_type ← type_read 6 (column 5 bs)
  version ← version_read 7 (behind_commas 6 bs)
  taken (record {
    interval = interval;
    whose = whose;
    raise = record { performance = raise; typed = raise_type };
    lower = record { performance = lower; typed = lower_type };
    version = version;
  })
