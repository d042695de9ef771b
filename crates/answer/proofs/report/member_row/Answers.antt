-- The test, then the row by its two figures.
use Rattle.std.specs.Prelude.{Ok}
use mathlib.Core.Path.{◌≡◌, refl, sym, ◌∙◌, ap}
use mathlib.Core.Bool.{true}
use Prim.Native.Nat.{◌<◌}
use lib.Dec.{leb}
use lib.ListN.{get_or}
use borrow.Author.Tests.{leb-true}
use Rattle.integers.specs.Sums.{both}
use Rattle.interval.specs.Lent.{Lent, passed_over}
use Rattle.kept.specs.Range.{unit_fine}
use Rattle.kept.specs.KeptReport.{member, place_fine, place_row}
use Rattle.answer.specs.Asked.{tally_of, lent_members}
use Rattle.answer.specs.Made.{RowThere}
use Rattle.answer.proofs.ReportLaws.{homed, row_same}
use Rattle.answer.proofs.report.member_row.Goals as goal
use Rattle.answer.proofs.report.member_row.Goals.{After-member_in_range, Else-not-member_in_range, Start}

abbrev S : After-member_in_range → Start
S c = (goal.at.After-member_in_range c).Start

abbrev lists : Start → Lent
lists s = lent_members s.args.figures.now s.args.homes.now s.args.rows.now

fine : (c : Else-not-member_in_range) → let s = S (goal.at.Else-not-member_in_range c).After-member_in_range in place_fine (tally_of 0 0 0) (lists s) (member s.args.row) ≡ true
fine c = sym c.member_in_range.ensures ∙ c.if-not-member_in_range.false

there :
    (c : Else-not-member_in_range) → let s = S (goal.at.Else-not-member_in_range c).After-member_in_range in (get_or s.args.homes.now s.args.row 0 < 10) × RowThere s.args.row (lists s)
there c =
    let s = S (goal.at.Else-not-member_in_range c).After-member_in_range in
    let k = s.requires.1 in
    let unit = (both (unit_fine (lists s) s.args.row) _ (fine c)).0 in
    let home = leb-true _ _ (both (leb (get_or s.args.homes.now s.args.row 0) passed_over) _ unit).0 in
    (homed k home, record { few = k.few; figures = k.figures; homes = k.homes; rows = k.rows; home = home })

pub returns-then-not-member_in_range : goal.returns-then-not-member_in_range
returns-then-not-member_in_range c = rw (sym c.member_in_range.ensures ∙ c.if-not-member_in_range.true)

pub member_figure-requires : goal.member_figure-requires
member_figure-requires c = there (goal.at.member_figure-requires c).Else-not-member_in_range

pub member_figure-requires-2 : goal.member_figure-requires-2
member_figure-requires-2 c = there (goal.at.member_figure-requires-2 c).Else-not-member_in_range

pub returns : goal.returns
unfolding place_row
returns c =
    rw (fine (goal.at.returns c).Else-not-member_in_range) (ap Ok (row_same refl c.member_figure.ensures c.member_figure-2.ensures))
