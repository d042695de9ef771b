-- So many of a list as it has are a part of it.
use mathlib.Core.Path.{sym}
use lib.Seq.{length-take-le}
use Rattle.sheet.proofs.lines.judge.Goals as goal

pub slice_bounds-sheet-end : goal.slice_bounds-sheet-end
slice_bounds-sheet-end c =
    sym (length-take-le c.within-n.result c.args.performances.now c.within-n.ensures)

pub slice_bounds-sheet-end-2 : goal.slice_bounds-sheet-end-2
slice_bounds-sheet-end-2 c =
    sym (length-take-le c.within-m.result c.args.factors.now c.within-m.ensures)
