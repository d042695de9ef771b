-- The member's row: past the last it is the residual's; any other is told by `member`, which refuses none of them.
use mathlib.Core.Path.{◌∙◌, ap}
use Prim.Native.Nat.{◌<◌}
use native.Mathlib.Omega.{arith}
use Rattle.interval.specs.Lent.{Lent, lent_member}
use Rattle.answer.specs.declared.Row.{Row}
use Rattle.answer.specs.Asked.{no_lists}
use Rattle.answer.specs.Roster.{row_answer}
use Rattle.answer.specs.Worked.{required}
use Rattle.panel.specs.Who.{by_row}
use Rattle.panel.proofs.PastLaws.{homed, row_told}
use Rattle.panel.proofs.WhoLaws.{residual_named, unit_named}
use Rattle.panel.proofs.who.member_at.Goals as goal
use Rattle.panel.proofs.who.member_at.Goals.{After-row_of-row, Start}

abbrev S : After-row_of-row → Start
S c = (goal.at.After-row_of-row c).Start

abbrev lists : Lent → Start → Lent
lists rest s = lent_member rest s.args.figures.now s.args.numbers.now s.args.homes.now

pub row_of-row-requires : goal.row_of-row-requires
row_of-row-requires c = homed c.requires

pub returns-then-row-units : goal.returns-then-row-units
returns-then-row-units c rest =
    let s = S (goal.at.returns-then-row-units c).After-row_of-row in
    let a = s.args in
    residual_named a.tally.units (lists rest s) (required a.fields) a.shown a.k c.row_of-row.result c.row_of-row.ensures.is c.if-row-units.true

pub returns : goal.returns
returns c rest =
    let s = S (goal.at.returns c).After-row_of-row in
    let a = s.args in
    let row = c.row_of-row.result in
    let found = c.row_of-row.ensures in
    let there : row < a.tally.units = omega (arith, found.within, c.if-row-units.false) in
    let told = row_told s.requires a.fields.direction row there (found.covered there) in
    rw (c.by_row.ensures ∙ ap (λ (r : Row). by_row r a.shown.residual) ((c.member.ensures no_lists).reply ∙ ap row_answer told))
    (unit_named a.tally.units (lists rest s) (required a.fields) a.shown a.k row found.is there)
