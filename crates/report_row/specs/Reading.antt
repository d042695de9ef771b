-- What the functions of the reader promise each other: what a column says as the code holds it, and where a column stands in the row.
use Rattle.std.specs.Prelude.{◌≡◌, Bool, true, false, cond, List, ℕ, ◌+◌, ◌-◌, ◌≤◌, eqb, leb, length, take, drop, Result, Option, Ok, Err, Some, None}
use Rattle.rules.specs.declared.Refusal.{Refusal}
use Rattle.rules.specs.declared.Refusal.TheVariants.{WrongRow}
use Rattle.rules.specs.declared.RegionName.{RegionName}
use Rattle.rules.specs.declared.RegionName.TheVariants.{Qld1, Nsw1, Vic1, Sa1, Tas1}
use Rattle.rules.specs.declared.Reported.{Reported}
use Rattle.rules.specs.declared.Figure.{Figure}
use Rattle.rules.specs.declared.ReportRow.{ReportRow}
use Rattle.rules.specs.Refusals.{Reply, taken, refused, ◌>>=◌}
use Rattle.rules.specs.ReportRead.{before_comma, behind_comma, behind_commas, said_from, said, billionths_most, performance_read, type_read, version_read}

-- a number up to the most that is asked for, else one more than that
abbrev pub limited : ℕ → ℕ → ℕ
limited most n = cond (leb n most) n (most + 1)

-- the number that the first so many bytes say, if it can have one digit more; the bytes behind them go on from it
pub record SaidFirst (bytes : List ℕ) (count number : ℕ) : Type 0 where
  pub within : number ≤ billionths_most
  pub is : said_from number (drop count bytes) ≡ said bytes

-- the digits of 31/12/9999 23:55:00, the last end of an interval
abbrev pub moment_most : ℕ
moment_most = 31_129_999_235_500

-- a test holds exactly if a fact does
abbrev pub Holds : Bool → Type 0 → Type 0
Holds true A = A
Holds false A = A → ⊥

-- the region that the first letter of its name says
abbrev pub region_of : ℕ → RegionName
region_of b = cond (eqb b 81) Qld1 (cond (eqb b 78) Nsw1 (cond (eqb b 86) Vic1 (cond (eqb b 83) Sa1 Tas1)))

-- ---- what is read of column k: taken, or wrong
abbrev pub column_reply : {A : Type 0} → ℕ → Option A → Reply A
column_reply k (Some a) = taken a
column_reply k None = refused (WrongRow k)

-- ---- where a column of the row stands
-- what is left of the row from a place on
pub record From (row rest : List ℕ) (at : ℕ) : Type 0 where
  pub inside : at ≤ length row
  pub is : drop at row ≡ rest

-- the column that starts there, and where the next one does
pub record ColumnAt (row : List ℕ) (from end next : ℕ) : Type 0 where
  pub ahead : from ≤ end
  pub inside : end ≤ length row
  pub is : take (end - from) (drop from row) ≡ before_comma (drop from row)
  pub behind : From row (behind_comma (drop from row)) next

-- ---- the rest of a row, from a column on
-- columns k and k + 1: a performance and its type
unfoldable pub figure_read : ℕ → List ℕ → Reply Figure
figure_read k bs = do
  performance ← performance_read k (before_comma bs)
  typed ← type_read (k + 1) (before_comma (behind_comma bs))
  taken (record { performance = performance; typed = typed })

-- and where the column behind them starts
abbrev pub FigureAt : ℕ → List ℕ → ℕ → Result (Figure × ℕ) Refusal → Type 0
FigureAt k row from (Ok (figure, next)) = (figure_read k (drop from row) ≡ taken figure) × From row (behind_commas 2 (drop from row)) next
FigureAt k row from (Err x) = figure_read k (drop from row) ≡ refused x

-- the last column
unfoldable pub version_on : ℕ → Reported → Figure → Figure → List ℕ → Reply ReportRow
version_on interval whose raise lower bs = do
  version ← version_read 7 bs
  taken (record { interval = interval; whose = whose; raise = raise; lower = lower; version = version })

-- from the lower performance on
unfoldable pub lower_on : ℕ → Reported → Figure → List ℕ → Reply ReportRow
lower_on interval whose raise bs = do
  lower ← figure_read 5 bs
  version_on interval whose raise lower (behind_commas 2 bs)

-- from the raise performance on
unfoldable pub raise_on : ℕ → Reported → List ℕ → Reply ReportRow
raise_on interval whose bs = do
  raise ← figure_read 3 bs
  lower_on interval whose raise (behind_commas 2 bs)
