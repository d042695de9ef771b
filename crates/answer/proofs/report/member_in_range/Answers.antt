-- The home, then the row for as many units as its plant has up to it, then the figures of its region.
use mathlib.Core.Path.{◌≡◌, sym, ◌∙◌, ap}
use Prim.Native.Nat.{ℕ, ◌+◌, ◌*◌, ◌≤◌, ◌<◌}
use native.Mathlib.Omega.{arith}
use lib.ListN.{length, get_or}
use borrow.Author.Tests.{le-leb, lt-leb, lt-ltb}
use Rattle.interval.specs.Lent.{row_fine}
use Rattle.kept.specs.Range.{units_at}
use Rattle.answer.proofs.UnitsHeld.{units_≤}
use Rattle.answer.proofs.ReportLaws.{homed}
use Rattle.answer.proofs.report.member_in_range.Goals as goal
use Rattle.answer.proofs.report.member_in_range.Goals.{After-row_in_range, Else-home-gt-PASSED_OVER, Start}

abbrev S : Else-home-gt-PASSED_OVER → Start
S c = (goal.at.Else-home-gt-PASSED_OVER c).Start

told :
    (c : After-row_in_range) → let a = (S (goal.at.After-row_in_range c).Else-home-gt-PASSED_OVER).args in
    row_fine (units_at a.homes.now a.row) a.row a.rows.now ≡ c.row_in_range.result
told c =
    let s = S (goal.at.After-row_in_range c).Else-home-gt-PASSED_OVER in
    let a = s.args in
    let units = c.units_up_to.ensures in
    let few : c.units_up_to.result ≤ 512 = omega (arith, units, units_≤ a.homes.now a.row, s.requires.few) in
    sym
    (rw (le-leb c.units_up_to.result 512 few, lt-ltb a.row 512 s.requires.few, le-leb (8 * a.row + 8) (length a.rows.now) s.requires.rows) at
    c.row_in_range.ensures ∙ ap (λ (n : ℕ). row_fine n a.row a.rows.now) units)

named : (c : Else-home-gt-PASSED_OVER) → get_or (S c).args.homes.now (S c).args.row 0 < 10
named c = homed (S c).requires c.if-home-gt-PASSED_OVER.false

pub returns-then-home-gt-PASSED_OVER : goal.returns-then-home-gt-PASSED_OVER
returns-then-home-gt-PASSED_OVER c = rw (lt-leb _ _ c.if-home-gt-PASSED_OVER.true)

pub returns-then-not-row_in_range : goal.returns-then-not-row_in_range
returns-then-not-row_in_range c = rw (le-leb _ _ c.if-home-gt-PASSED_OVER.false, told (goal.at.returns-then-not-row_in_range c).After-row_in_range ∙ c.if-not-row_in_range.true)

pub overflow_cast-home : goal.overflow_cast-home
overflow_cast-home c = omega (arith, named (goal.at.overflow_cast-home c).Else-home-gt-PASSED_OVER)

pub region_within-requires : goal.region_within-requires
region_within-requires c = (omega (arith, named (goal.at.region_within-requires c).Else-home-gt-PASSED_OVER), (S (goal.at.region_within-requires c).Else-home-gt-PASSED_OVER).requires.figures)

pub returns : goal.returns
returns c =
    rw (le-leb _ _ c.if-home-gt-PASSED_OVER.false, told (goal.at.returns c).After-row_in_range ∙ c.if-not-row_in_range.false) c.region_within.ensures
