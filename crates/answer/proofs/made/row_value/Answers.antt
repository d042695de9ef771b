-- The performance of a live unit, or the field's default among the six of its row.
use mathlib.Core.Path.{◌≡◌, sym, ◌∙◌, ap, ap₂}
use mathlib.Core.Bool.{Bool, cond}
use Prim.Native.Nat.{ℕ, ◌+◌, ◌*◌, ◌≤◌}
use native.Mathlib.Omega.{arith}
use borrow.Author.Rules.{sfits_of}
use lib.IntN.{pos}
use lib.ListN.{get_or}
use mir.Syntax.{w64}
use mir.Facts.{to_z-of_z}
use Rattle.interval.specs.Lent.{Lent, in_row}
use Rattle.kept.specs.Kept.{row_member}
use Rattle.answer.specs.Asked.{lent_members}
use Rattle.answer.specs.Made.{performance_at, defaults_at, field_at, field_of}
use Rattle.answer.proofs.MadeLaws.{performance_at_≤, defaults_at_≤, field_at_≤, number_is}
use Rattle.answer.proofs.made.row_value.Goals as goal
use Rattle.answer.proofs.made.row_value.Goals.{After-field_place, After-goes_live, After-performance_place, Start}

abbrev start : After-goes_live → Start
start c = (goal.at.After-goes_live c).Start

abbrev lists : Start → Lent
lists s = lent_members s.args.figures.now s.args.homes.now s.args.rows.now

number :
    (c : After-goes_live) (t : Bool) → c.goes_live.result ≡ t → let a = (start c).args in
    cond t (in_row a.rows.now a.row (performance_at a.direction))
    (in_row a.rows.now a.row (2 + defaults_at a.direction + field_at a.field)) ≡
    field_of a.field (row_member (lists (start c)) a.direction a.row)
number c t e =
    let a = (start c).args in
    let row = in_row a.rows.now a.row in
    sym
    (number_is (lists (start c)) a.field a.direction a.row
    ∙ ap (λ (s : Bool). cond s (row (performance_at a.direction)) (row (2 + defaults_at a.direction + field_at a.field)))
    (sym c.goes_live.ensures ∙ e))

performs : (c : After-performance_place) → c.performance_place.result ≤ 1
performs c = rw c.performance_place.ensures (performance_at_≤ (start (goal.at.After-performance_place c).After-goes_live).args.direction)

abbrev live : After-field_place → After-goes_live
live c = (goal.at.After-field_place c).After-goes_live

within_six : (c : After-field_place) → c.defaults_place.result + c.field_place.result ≤ 5
within_six c =
    let a = (start (live c)).args in
    omega (arith, c.defaults_place.ensures, c.field_place.ensures, defaults_at_≤ a.direction, field_at_≤ a.field)

pub overflow_add-result : goal.overflow_add-result
overflow_add-result c = omega (arith, performs (goal.at.overflow_add-result c).After-performance_place)

pub offset_bounds-rows-start : goal.offset_bounds-rows-start
offset_bounds-rows-start c = omega (arith, performs (goal.at.offset_bounds-rows-start c).After-performance_place)

pub bounds-rows-start : goal.bounds-rows-start
bounds-rows-start c = omega (arith, performs (goal.at.bounds-rows-start c).After-performance_place)

pub returns-then-goes_live : goal.returns-then-goes_live
returns-then-goes_live c =
    let a = (start (goal.at.returns-then-goes_live c).After-goes_live).args in
    to_z-of_z {w = w64} (sfits_of c.result-1.given)
    ∙ ap (λ (n : ℕ). get_or a.rows.now (8 * a.row + n) (pos 0)) c.performance_place.ensures
    ∙ number (goal.at.returns-then-goes_live c).After-goes_live _ c.if-goes_live.true

pub overflow_add-at : goal.overflow_add-at
overflow_add-at c = omega (arith, c.defaults_place.ensures, defaults_at_≤ (start (goal.at.overflow_add-at c).After-goes_live).args.direction)

pub overflow_add-at-2 : goal.overflow_add-at-2
overflow_add-at-2 c = omega (arith, within_six (goal.at.overflow_add-at-2 c).After-field_place)

pub overflow_add-result-2 : goal.overflow_add-result-2
overflow_add-result-2 c = omega (arith, within_six (goal.at.overflow_add-result-2 c).After-field_place)

pub offset_bounds-rows-start-2 : goal.offset_bounds-rows-start-2
offset_bounds-rows-start-2 c = omega (arith, within_six (goal.at.offset_bounds-rows-start-2 c).After-field_place)

pub bounds-rows-start-2 : goal.bounds-rows-start-2
bounds-rows-start-2 c = omega (arith, within_six (goal.at.bounds-rows-start-2 c).After-field_place)

pub returns : goal.returns
returns c =
    let g = live (goal.at.returns c).After-field_place in
    let a = (start g).args in
    to_z-of_z {w = w64} (sfits_of c.result-2-1.given)
    ∙ ap₂ (λ (m n : ℕ). get_or a.rows.now (8 * a.row + (2 + m + n)) (pos 0)) c.defaults_place.ensures c.field_place.ensures
    ∙ number g _ c.if-goes_live.false
