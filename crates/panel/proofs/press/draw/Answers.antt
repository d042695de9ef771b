-- The first page from the reply and the record; a member's from who it names and its row of the three columns.
use mathlib.Core.Path.{◌∙◌}
use Prim.Native.Nat.{ℕ, ◌-◌}
use native.Mathlib.Omega.{arith}
use borrow.Author.Rules.{sfits_of}
use mir.Syntax.{w64}
use mir.Facts.{to_z-of_z}
use Rattle.interval.specs.Lent.{Lent, lent_member}
use Rattle.answer.specs.Worked.{required}
use Rattle.panel.specs.Press.{Cents, cents}
use Rattle.panel.proofs.ShownLaws.{line_is, first_shown, member_shown}
use Rattle.panel.proofs.press.draw.Goals as goal
use Rattle.panel.proofs.press.draw.Goals.{After-slice_known-1, Start}

abbrev S : After-slice_known-1 → Start
S c = (goal.at.After-slice_known-1 c).Start

abbrev lists : Lent → Start → Lent
lists rest s = lent_member rest s.args.figures.now s.args.numbers.now s.args.homes.now

abbrev columns : Start → Cents
columns s = cents s.args.payments.now s.args.used.now s.args.unused.now

pub returns-then-page-eq0 : goal.returns-then-page-eq0
returns-then-page-eq0 c rest =
    let s = S (goal.at.returns-then-page-eq0 c).After-slice_known-1 in
    let a = s.args in
    first_shown a.tally.units (lists rest s) (required a.fields) a.shown (columns s) c.if-page-eq0.true
    (to_z-of_z {w = w64} (sfits_of c.unsigned.type_inv) ∙ c.unsigned.ensures) (to_z-of_z {w = w64} (sfits_of c.unsigned-then-page-eq0.type_inv) ∙ c.unsigned-then-page-eq0.ensures)
    (to_z-of_z {w = w64} (sfits_of c.unsigned-then-page-eq0-2.type_inv) ∙ c.unsigned-then-page-eq0-2.ensures) c.first_page.ensures

pub returns : goal.returns
returns c rest =
    let s = S (goal.at.returns c).After-slice_known-1 in
    let a = s.args in
    let l = lists rest s in
    let k : ℕ = a.page - 1 in
    member_shown a.tally.units l (required a.fields) a.shown (columns s) {k = k} (omega (arith, c.if-page-eq0.false))
    (line_is a.tally.units l (required a.fields) a.shown (columns s) (c.member_at-named.ensures rest)
    (to_z-of_z {w = w64} (sfits_of c.member_page-arg-1.given)) (to_z-of_z {w = w64} (sfits_of c.member_page-arg-2-1.given))
    (to_z-of_z {w = w64} (sfits_of c.member_page-arg-3-1.given)))
    c.member_page.ensures
