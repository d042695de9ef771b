-- What passes the test is not below zero and fits.
use mathlib.Core.Path.{ap}
use mathlib.Core.Bool.{not}
use Prim.Native.Nat.{◌^◌}
use mir.Facts.{to_z-of_z}
use mir.Syntax.{w32}
use Rattle.rules.specs.Laid.{below}
use Rattle.writer.proofs.WordsLaws.{refused, passed, below_fits}
use Rattle.writer.proofs.words.four_bytes.Goals as goal

pub returns-then-not-below : goal.returns-then-not-below
returns-then-not-below c = rw (refused (below (2 ^ 32)) c.ranges.x c.below.ensures (ap not c.if-not-below.true))

pub overflow_cast-result : goal.overflow_cast-result
overflow_cast-result c =
    simp (to_z-of_z, c.ranges.x)
    (below_fits {w = w32} c.args.x (passed (below (2 ^ 32)) c.ranges.x c.below.ensures (ap not c.if-not-below.false)))

pub returns : goal.returns
returns c =
    rw (passed (below (2 ^ 32)) c.ranges.x c.below.ensures (ap not c.if-not-below.false)) (simp (to_z-of_z, c.ranges.x))
