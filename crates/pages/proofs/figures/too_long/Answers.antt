-- How many characters a size has is told by powers of ten, with one place less below zero.
use Rattle.pages.proofs.FigureLaws.{long_above, long_below}
use Rattle.pages.proofs.figures.too_long.Goals as goal

pub returns-then-x : goal.returns-then-x
returns-then-x c =
    let x = c.args.x in
    rw c.if-x.true (long_below x.size)

pub returns : goal.returns
returns c =
    let x = c.args.x in
    rw c.if-x.false (long_above x.size)
