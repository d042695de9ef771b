-- A row of the performance report as text (02, R-11): date and time, unit, raise performance, type, lower performance, type, version, with six commas and a
-- line feed; and the call that writes it.
use Rattle.std.specs.Prelude.{List, [], ◌∷◌, ◌++◌, ℕ, zero, suc, ◌+◌, ◌/◌, ◌%◌, leb, ℤ, pos, negsuc, ◌*ℤ◌, length, drop}
use Rattle.integers.specs.Nearest.{nearest}
use Rattle.rules.specs.declared.Refusal.TheVariants.{TooShort, YearPast}
use Rattle.rules.specs.declared.RegionName.{RegionName}
use Rattle.rules.specs.declared.RegionName.TheVariants.{Qld1, Nsw1, Vic1, Sa1, Tas1}
use Rattle.rules.specs.declared.Reported.{Reported}
use Rattle.rules.specs.declared.Reported.TheVariants.{Unit, Residual}
use Rattle.rules.specs.declared.FigureType.{FigureType}
use Rattle.rules.specs.declared.FigureType.TheVariants.{Calculated, Default}
use Rattle.rules.specs.declared.Figure.{Figure}
use Rattle.rules.specs.declared.ReportRow.{ReportRow}
use Rattle.rules.specs.Quantities.{billion}
use Rattle.rules.specs.Refusals.{Reply, taken, refused, unless}
use Rattle.rules.specs.Text.{text, natural}
use Rattle.rules.specs.Calendar.{last_interval, Moment, ends_at}

-- a number by so many digits, zeros before it
unfoldable pub padded : ℕ → ℕ → List ℕ
padded zero n = []
padded (suc places) n = padded places (n / 10) ++ ((48 + n % 10) ∷ [])

-- ---- date and time of the interval's end: DD/MM/YYYY HH:MM:SS
abbrev pub moment_text : Moment → List ℕ
moment_text m =
    padded 2 m.date.day ++ (text "/" ++ (padded 2 m.date.month ++ (text "/" ++ (padded 4 m.date.year ++ (text " " ++
    (padded 2 m.hour ++ (text ":" ++ (padded 2 m.minute ++ text ":00"))))))))

abbrev pub interval_text : ℕ → List ℕ
interval_text n = moment_text (ends_at n)

-- ---- the unit number, or `Residual`, a space and the region's name
abbrev pub region_text : RegionName → List ℕ
region_text Qld1 = text "QLD1"
region_text Nsw1 = text "NSW1"
region_text Vic1 = text "VIC1"
region_text Sa1 = text "SA1"
region_text Tas1 = text "TAS1"

abbrev pub whose_text : Reported → List ℕ
whose_text (Unit n) = natural n
whose_text (Residual r) = text "Residual " ++ region_text r

-- ---- a performance in billionths of a MWHz: the nearest of 2/15 of our number
abbrev pub billionths : ℤ → ℤ
billionths performance = nearest (pos 2 *ℤ performance) 15

-- in MWHz with nine decimals; zero has no minus
abbrev pub decimals : ℕ → List ℕ
decimals b = natural (b / billion) ++ (text "." ++ padded 9 (b % billion))

abbrev pub performance_text : ℤ → List ℕ
performance_text (pos b) = decimals b
performance_text (negsuc b) = text "-" ++ decimals (suc b)

abbrev pub type_text : FigureType → List ℕ
type_text Calculated = text "Calculated"
type_text Default = text "Default"

abbrev pub version_text : ℕ → List ℕ
version_text version = natural version ++ text "\n"

-- ---- the row, of billionths: seven columns with six commas; the seventh takes the line feed with it
infixr 5 ◌then◌
abbrev pub ◌then◌ : List ℕ → List ℕ → List ℕ
column then columns = column ++ (text "," ++ columns)

unfoldable pub row_text : ReportRow → List ℕ
row_text r =
    interval_text r.interval then whose_text r.whose then performance_text r.raise.performance then type_text r.raise.typed then
    performance_text r.lower.performance then type_text r.lower.typed then version_text r.version

-- of performances
abbrev pub figure_billionths : Figure → Figure
figure_billionths f = record { performance = billionths f.performance; typed = f.typed }

abbrev pub in_billionths : ReportRow → ReportRow
in_billionths r =
    record {
      interval = r.interval;
      whose = r.whose;
      raise = figure_billionths r.raise;
      lower = figure_billionths r.lower;
      version = r.version;
    }

abbrev pub report_row : ReportRow → List ℕ
report_row r = row_text (in_billionths r)

-- ---- the call: 15 for a year past 9999, then 12 for a text shorter than the row
unfoldable pub row_written : ReportRow → ℕ → Reply (List ℕ)
row_written r room = unless (leb r.interval last_interval) YearPast (unless (leb (length (report_row r)) room) TooShort (taken (report_row r)))

-- what the lent text then holds: the row from its start on, all else as it was, and on a refusal all of it
abbrev pub text_after : Reply (List ℕ) → List ℕ → List ℕ
text_after (taken row) old = row ++ drop (length row) old
text_after (refused r) old = old
