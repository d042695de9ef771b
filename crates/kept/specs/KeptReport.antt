-- The rows of a book's report (02, R-11) from what the calls have kept: which row of the roster or which region a row of the report is, what it reads, and what
-- it says. That these are the report's rows of the book itself is the theorem `report_is`.
use Rattle.std.specs.Prelude.{Bool, not, cond, ◌&&◌, List, ℕ, ◌-◌, ◌*◌, eqb, leb, ltb, length, get_or}
use Rattle.integers.specs.Totals.{those}
use Rattle.rules.specs.declared.Direction.{Direction}
use Rattle.rules.specs.declared.Reason.TheVariants.{NoGoodUnit}
use Rattle.rules.specs.declared.Refusal.TheVariants.{WrongState, TooShort}
use Rattle.rules.specs.declared.Reported.TheVariants as whose
use Rattle.rules.specs.declared.Figure.{Figure}
use Rattle.rules.specs.declared.ReportRow.{ReportRow}
use Rattle.rules.specs.Quantities.{regions}
use Rattle.rules.specs.Bytes.{listed}
use Rattle.rules.specs.Refusals.{Reply, taken, unless, ◌>>=◌}
use Rattle.rules.specs.Standings.{standing}
use Rattle.rules.specs.Report.{figure, region_name, row_of}
use Rattle.interval.specs.declared.Tally.{Tally}
use Rattle.interval.specs.Tally.{in_range, answer_turn}
use Rattle.interval.specs.Lent.{Lent, passed_over, figures_length, row_each, of_interval}
use Rattle.kept.specs.Kept.{region_of, reliable_of, row_standing, row_value, some_good_or_none_of, residual_value}
use Rattle.kept.specs.Range.{region_fine, unit_fine, rows_fine}

-- ---- a row's place in the report: a row of the roster, or a region
pub data Place : Type 0 where
  member : ℕ → Place
  residual : ℕ → Place

-- the rows of the roster that stand for a member: those that are not passed over
abbrev pub stands : Lent → ℕ → Bool
stands l i = not (eqb (get_or l.homes i 0) passed_over)

unfoldable pub member_rows : Tally → Lent → List ℕ
member_rows t l = those (stands l) (listed 0 t.units (λ i. i))

-- the members in roster order, then the five regions; 11 for a row past the last
unfoldable pub place_of : Tally → Lent → ℕ → Reply Place
place_of t l row =
    let members = length (member_rows t l) in
    cond (ltb row members) (taken (member (get_or (member_rows t l) row 0)))
    (unless (ltb (row - members) regions) WrongState (taken (residual (row - members))))

-- ---- what a row reads is in range: the figures of its region, and its own numbers; for a residual those of every row of the roster
abbrev pub place_fine : Tally → Lent → Place → Bool
place_fine t l (member i) = unit_fine l i && region_fine l (region_of l i)
place_fine t l (residual r) = rows_fine t l && region_fine l r

-- ---- what it says: live, or the payment default
abbrev pub row_figure : Lent → ℕ → Direction → Figure
row_figure l i d = figure (row_standing l d i) (row_value l d 0 i)

abbrev pub region_figure : Tally → Lent → ℕ → Direction → Figure
region_figure t l r d = figure (standing (reliable_of l d r) (some_good_or_none_of t l r) NoGoodUnit) (residual_value t l d 0 r)

unfoldable pub place_row : Tally → Lent → ℕ → Place → ReportRow
place_row t l version (member i) = row_of t.interval version (whose.Unit (get_or l.numbers i 0)) (row_figure l i)
place_row t l version (residual r) = row_of t.interval version (whose.Residual (region_name r)) (region_figure t l r)

-- ---- the call: 11 out of turn, 12 for a short list, then 11 for figures of another interval, for a row past the last, and for a number that the row reads
abbrev pub report_long : ℕ → Lent → Bool
report_long units l =
    leb figures_length (length l.figures)
    && (leb units (length l.numbers) && (leb units (length l.homes) && leb (row_each * units) (length l.rows)))

abbrev pub fine_row : Tally → Lent → ℕ → Place → Reply ReportRow
fine_row t l version place = unless (place_fine t l place) WrongState (taken (place_row t l version place))

unfoldable pub report_reply : Tally → ℕ → ℕ → Lent → Reply ReportRow
report_reply t row version l =
    unless (in_range t && answer_turn t) WrongState
    (unless (report_long t.units l) TooShort
    (unless (of_interval t.interval l.figures) WrongState
    (place_of t l row >>= fine_row t l version)))
