-- Hashes where the number has more characters than places; else its characters, and spaces before them.
use Prim.Native.Nat.{◌≤◌}
use native.Mathlib.Omega.{arith}
use borrow.Author.Tests.{ltb-true, ltb-false}
use mathlib.Core.Path.{sym, ◌∙◌}
use lib.ListN.{length}
use Rattle.rules.specs.Text.{integer}
use Rattle.pages.specs.Amounts.{value}
use Rattle.pages.proofs.FigureLaws.{hashes_put, figure_put}
use Rattle.pages.proofs.figures.put_figure.Goals as goal
use Rattle.pages.proofs.figures.put_figure.Goals.{Else-too_long}

fitting : (c : Else-too_long) → length (integer (value c.args.x)) ≤ 16
fitting c =
    let n = length (integer (value c.args.x)) in
    ltb-false 16 n (sym c.too_long.ensures ∙ c.if-too_long.false)

pub returns-then-too_long : goal.returns-then-too_long
returns-then-too_long c =
    let n = length (integer (value c.args.x)) in
    hashes_put (value c.args.x) (ltb-true 16 n (sym c.too_long.ensures ∙ c.if-too_long.true)) c.put_repeated.ensures

pub put_integer-start-requires : goal.put_integer-start-requires
put_integer-start-requires c = (c.requires, fitting (goal.at.put_integer-start-requires c).Else-too_long)

pub overflow_sub-start : goal.overflow_sub-start
overflow_sub-start c =
    omega (arith, fitting (goal.at.overflow_sub-start c).Else-too_long, c.put_integer-start.ensures.place)

pub returns : goal.returns
returns c =
    figure_put (value c.args.x) (fitting (goal.at.returns c).Else-too_long) c.put_integer-start.ensures c.put_repeated-2.ensures
