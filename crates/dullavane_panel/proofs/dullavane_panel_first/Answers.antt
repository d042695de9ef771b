-- Numbers over their fields are refused; else the page is drawn, or refused.
use mathlib.Core.Path.{refl, sym, ◌∙◌}
use mir.Facts.{to_z-of_z}
use Rattle.dullavane_panel.proofs.WordsLaws.{first_fits}
use Rattle.dullavane_panel.proofs.CalledLaws.{page_refused, page_drawn, first_same, drawn_as}
use Rattle.dullavane_panel.proofs.dullavane_panel_first.Goals as goal

pub returns-then-not-first_narrow : goal.returns-then-not-first_narrow
returns-then-not-first_narrow c =
    page_refused (sym c.first_narrow.ensures ∙ c.if-not-first_narrow.true) c.refusal_number.ensures

pub overflow_cast-number : goal.overflow_cast-number
overflow_cast-number c =
    let s = c.args in
    record { fits = first_fits s.number s.direction (sym c.first_narrow.ensures ∙ c.if-not-first_narrow.false) }

pub returns : goal.returns
returns c =
    let a = c.args in
    page_drawn (sym c.first_narrow.ensures ∙ c.if-not-first_narrow.false)
    (drawn_as (first_same a.number {x = a.rcr} {y = a.pool} {z = a.cost} c.direction_of.ensures refl refl refl)
    (simp (to_z-of_z, c.ranges.rcr, c.ranges.pool, c.ranges.cost) at c.first_page.ensures))
    c.tell_drawn.ensures
