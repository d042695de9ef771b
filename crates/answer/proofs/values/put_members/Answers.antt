-- The rows' numbers stand at the front of the column, and the residual's is stored behind them.
use mathlib.Core.Path.{◌∙◌, ap}
use Prim.Native.Nat.{◌≤◌, ◌<◌}
use lib.ListN.{length}
use native.Mathlib.Omega.{arith}
use borrow.Author.Rules.{sfits_of}
use mir.Facts.{to_z-of_z}
use mir.Syntax.{w64}
use Rattle.answer.specs.Asked.{lent_members}
use Rattle.answer.specs.declared.Member.{Member}
use Rattle.answer.specs.Made.{picked}
use Rattle.answer.proofs.Lists.{headed_length}
use Rattle.answer.proofs.ValuesLaws.{with_residual}
use Rattle.answer.proofs.values.put_members.Goals as goal
use Rattle.answer.proofs.values.put_members.Goals.{After-put_rows-last, Start}

abbrev start : After-put_rows-last → Start
start c = (goal.at.After-put_rows-last c).Start

-- the column goes on behind the rows' numbers
behind : (c : After-put_rows-last) → c.put_rows-last.result < length c.put_rows-last.new.column
behind c = omega (arith, c.put_rows-last.ensures.few, (start c).requires.column, ap length c.put_rows-last.ensures.put ∙ headed_length _ _)

small : (c : After-put_rows-last) → c.put_rows-last.result ≤ 512
small c = omega (arith, c.put_rows-last.ensures.few, (start c).requires.tested.regions.performances.raise.few)

pub put_rows-last-requires : goal.put_rows-last-requires
put_rows-last-requires c = let h = c.requires in (h.five, h.column, h.tested.rows)

pub offset_bounds-column-last : goal.offset_bounds-column-last
offset_bounds-column-last c = omega (arith, small (goal.at.offset_bounds-column-last c).After-put_rows-last)

pub bounds-column-last : goal.bounds-column-last
bounds-column-last c = behind (goal.at.bounds-column-last c).After-put_rows-last

pub overflow_add-result : goal.overflow_add-result
overflow_add-result c = omega (arith, small (goal.at.overflow_add-result c).After-put_rows-last)

pub returns : goal.returns
returns c =
    let s = start (goal.at.returns c).After-put_rows-last in
    let a = s.args in
    with_residual a.field a.units a.direction a.set (lent_members a.figures.now a.homes.now a.rows.now) a.column.now
    c.put_rows-last.ensures
    (to_z-of_z {w = w64} (sfits_of c.value.type_inv) ∙ c.value.ensures ∙ ap (λ (x : Member). picked a.field x) s.requires.last)
