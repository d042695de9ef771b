-- Numbers over their fields are refused; else the page is drawn, or refused.
use mathlib.Core.Path.{sym, ◌∙◌}
use mir.Facts.{to_z-of_z}
use Rattle.dullavane_panel.proofs.WordsLaws.{narrow_live}
use Rattle.dullavane_panel.proofs.CalledLaws.{page_refused, page_drawn, member_same, drawn_as}
use Rattle.dullavane_panel.proofs.dullavane_panel_member.Goals as goal

pub returns-then-not-member_narrow : goal.returns-then-not-member_narrow
returns-then-not-member_narrow c =
    page_refused (sym c.member_narrow.ensures ∙ c.if-not-member_narrow.true) c.refusal_number.ensures

pub who_in-requires : goal.who_in-requires
who_in-requires c =
    let s = c.args in
    narrow_live s.residual s.number s.standing (sym c.member_narrow.ensures ∙ c.if-not-member_narrow.false)

pub returns : goal.returns
returns c =
    let a = c.args in
    page_drawn (sym c.member_narrow.ensures ∙ c.if-not-member_narrow.false)
    (drawn_as (member_same a.payment a.used a.unused c.who_in.ensures c.standing_in.ensures)
    (simp (to_z-of_z, c.ranges.payment, c.ranges.used, c.ranges.unused) at c.member_page.ensures))
    c.tell_drawn.ensures
