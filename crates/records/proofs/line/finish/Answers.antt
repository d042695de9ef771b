-- The bytes so far are as many as the line has counted.
use mathlib.Core.Path.{sym}
use lib.Seq.{length-take-le}
use Rattle.records.proofs.line.finish.Goals as goal

pub slice_bounds-answer-end : goal.slice_bounds-answer-end
slice_bounds-answer-end c = sym (length-take-le _ _ c.if-count-bytes.true)
