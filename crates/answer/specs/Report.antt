-- What `report` promises, and what its functions promise each other. The rows themselves are those of `kept`, KeptReport.
use Rattle.rules.specs.declared.Refusal.{Refusal}
use Rattle.std.specs.Prelude.{◌≡◌, true, List, [], ℕ, ◌+◌, ◌*◌, ◌<◌, ◌≤◌, ltb, ℤ, length, Result, Ok, Err}
use Rattle.rules.specs.declared.Refusal.TheVariants.{WrongState}
use Rattle.rules.specs.declared.ReportRow.{ReportRow}
use Rattle.integers.specs.Totals.{those}
use Rattle.rules.specs.Quantities.{regions, most_units}
use Rattle.rules.specs.Bytes.{listed}
use Rattle.rules.specs.Refusals.{Reply, taken, refused, unless}
use Rattle.interval.specs.declared.Tally.{Tally}
use Rattle.interval.specs.Lent.{Lent, figures_length, row_each}
use Rattle.kept.specs.KeptReport.{Place, member, residual, stands, report_reply}
use Rattle.answer.specs.Asked.{lent_members}
use Rattle.answer.specs.declared.report.Place.{Place as At}
use Rattle.answer.specs.declared.report.Place.TheVariants.{Member, Residual, Past}

-- what `report` is lent; of the rest it neither reads nor writes anything
abbrev pub lent_report : Lent → List ℤ → List ℕ → List ℕ → List ℤ → Lent
lent_report rest gs us hs rs =
    record {
      measures = rest.measures;
      sums = rest.sums;
      figures = gs;
      numbers = us;
      homes = hs;
      rows = rs;
      groups = rest.groups;
      deviations = rest.deviations;
    }

-- ---- a row's place, and that of one so far past the members
abbrev pub placed : Reply Place → At
placed (taken (member i)) = Member i
placed (taken (residual r)) = Residual r
placed (refused r) = Past

abbrev pub region_at : ℕ → Reply Place
region_at past = unless (ltb past regions) WrongState (taken (residual past))

-- how many members stand in the first n rows, and that so many stand in the rows from one to another
abbrev pub members_to : List ℕ → ℕ → ℕ
members_to homes n = length (those (stands (lent_members [] homes [])) (listed 0 n (λ i. i)))

pub record MembersBetween (homes : List ℕ) (from to many : ℕ) : Type 0 where
  pub is : members_to homes from + many ≡ members_to homes to

-- ---- what the rows read is there
-- a member's: the row is not passed over
pub record MemberThere (i : ℕ) (l : Lent) : Type 0 where
  pub few : i < most_units
  pub figures : figures_length ≤ length l.figures
  pub homes : i < length l.homes
  pub rows : row_each * i + row_each ≤ length l.rows
  pub member : stands l i ≡ true

-- a residual's: all rows of the roster
pub record RowsThere (units : ℕ) (l : Lent) : Type 0 where
  pub few : units ≤ most_units
  pub figures : figures_length ≤ length l.figures
  pub homes : units ≤ length l.homes
  pub rows : row_each * units ≤ length l.rows

-- ---- the promise: the row, or the refusal
abbrev pub report_found : Reply ReportRow → Result ReportRow Refusal
report_found (taken r) = Ok r
report_found (refused r) = Err r

pub record ReportPromise (t : Tally) (row version : ℕ) (l : Lent) (r : Result ReportRow Refusal) : Type 0 where
  pub reply : r ≡ report_found (report_reply t row version l)
