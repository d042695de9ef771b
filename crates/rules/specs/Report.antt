-- The performance report of a book (02, R-11): one row a member in roster order, a group by its primary's number, then one a region, its residual's.
-- Performances are live, or the payment default that stands in; so each direction has its own type.
use Rattle.std.specs.Prelude.{cond, List, [], ◌∷◌, ◌++◌, map, ℕ, leb, ℤ, get_or}
use Rattle.rules.specs.declared.Direction.{Direction}
use Rattle.rules.specs.declared.Direction.TheVariants.{Raise, Lower}
use Rattle.rules.specs.declared.Standing.{Standing}
use Rattle.rules.specs.declared.Standing.TheVariants.{Live, Default}
use Rattle.rules.specs.declared.Refusal.TheVariants.{YearPast}
use Rattle.rules.specs.declared.RegionName.{RegionName}
use Rattle.rules.specs.declared.RegionName.TheVariants.{Qld1, Nsw1, Vic1, Sa1, Tas1}
use Rattle.rules.specs.declared.Reported.{Reported}
use Rattle.rules.specs.declared.Reported.TheVariants.{Unit, Residual}
use Rattle.rules.specs.declared.FigureType.{FigureType}
use Rattle.rules.specs.declared.FigureType.TheVariants as type
use Rattle.rules.specs.declared.Figure.{Figure}
use Rattle.rules.specs.declared.ReportRow.{ReportRow}
use Rattle.rules.specs.Quantities.{regions}
use Rattle.rules.specs.Bytes.{listed}
use Rattle.rules.specs.Refusals.{LocatedReply, taken, refused, located}
use Rattle.rules.specs.Book.{Book}
use Rattle.rules.specs.WholeBook.{book}
use Rattle.rules.specs.Plants.{Plant, plants}
use Rattle.rules.specs.Standings.{residual_standing}
use Rattle.rules.specs.Members.{plant_member, residual_or}
use Rattle.rules.specs.Listing.{joined, refused_line}
use Rattle.rules.specs.Calendar.{last_interval}
use Rattle.rules.specs.ReportRow.{report_row}

-- a live performance was calculated
abbrev pub type_of : Standing → FigureType
type_of Live = type.Calculated
type_of (Default why) = type.Default

abbrev pub figure : Standing → ℤ → Figure
figure s performance = record { performance = performance; typed = type_of s }

-- ---- a member's, and a region's residual's
abbrev pub plant_figure : Book → Direction → Plant → Figure
plant_figure b d p = figure (plant_member b d p).standing (plant_member b d p).payment

abbrev pub residual_figure : Book → Direction → ℕ → Figure
residual_figure b d r = figure (residual_standing b d r) (residual_or b d (λ f. f.payment) r)

-- regions 0 to 4 print as these
abbrev pub region_name : ℕ → RegionName
region_name r = get_or (Qld1 ∷ Nsw1 ∷ Vic1 ∷ Sa1 ∷ Tas1 ∷ []) r Qld1

-- ---- the rows: the members', then the five regions', also of a region that has no unit
abbrev pub row_of : ℕ → ℕ → Reported → (Direction → Figure) → ReportRow
row_of interval version whose figures =
    record { interval = interval; whose = whose; raise = figures Raise; lower = figures Lower; version = version }

unfoldable pub member_row : Book → ℕ → Plant → ReportRow
member_row b version p = row_of b.settings.interval version (Unit p.number) (λ d. plant_figure b d p)

unfoldable pub residual_row : Book → ℕ → ℕ → ReportRow
residual_row b version r = row_of b.settings.interval version (Residual (region_name r)) (λ d. residual_figure b d r)

unfoldable pub report_rows : Book → ℕ → List ReportRow
report_rows b version = map (member_row b version) (plants b.roster) ++ listed 0 regions (residual_row b version)

-- ---- what `report` prints of the bytes of a book: the rows; or the refusal alone, also of a year past 9999, which has no place
unfoldable pub report_text : ℕ → Book → List ℕ
report_text version b =
    cond (leb b.settings.interval last_interval) (joined report_row (report_rows b version)) (refused_line (located 0 YearPast))

abbrev pub reported : ℕ → LocatedReply Book → List ℕ
reported version (taken b) = report_text version b
reported version (refused r) = refused_line r

unfoldable pub report : ℕ → List ℕ → List ℕ
report version bs = reported version (book bs)
