-- What passes the test is not below zero and fits.
use mathlib.Core.Path.{ap}
use mathlib.Core.Bool.{not}
use Prim.Native.Nat.{◌^◌}
use mir.Facts.{to_z-of_z}
use mir.Syntax.{w64}
use Rattle.rules.specs.Laid.{below}
use Rattle.writer.proofs.WordsLaws.{refused, passed, below_fits}
use Rattle.writer.proofs.words.eight_bytes.Goals as goal

pub returns-then-not-natural : goal.returns-then-not-natural
returns-then-not-natural c = rw (refused (below (2 ^ 64)) c.ranges.x c.natural.ensures (ap not c.if-not-natural.true))

pub overflow_cast-result : goal.overflow_cast-result
overflow_cast-result c =
    simp (to_z-of_z, c.ranges.x)
    (below_fits {w = w64} c.args.x (passed (below (2 ^ 64)) c.ranges.x c.natural.ensures (ap not c.if-not-natural.false)))

pub returns : goal.returns
returns c =
    rw (passed (below (2 ^ 64)) c.ranges.x c.natural.ensures (ap not c.if-not-natural.false)) (simp (to_z-of_z, c.ranges.x))
