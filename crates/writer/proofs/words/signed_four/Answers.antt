-- What passes the test fits four bytes with a sign.
use mathlib.Core.Path.{◌∙◌, ap}
use mathlib.Core.Bool.{not}
use Prim.Native.Nat.{◌^◌}
use mir.Facts.{to_z-of_z}
use mir.Syntax.{w32}
use mir.Val.{SFits}
use Rattle.rules.specs.Laid.{halved}
use Rattle.writer.proofs.WordsLaws.{refused, passed, halved_fits}
use Rattle.writer.proofs.words.signed_four.Goals as goal
use Rattle.writer.proofs.words.signed_four.Goals.{Else-not-halved}

fits : (c : Else-not-halved) → SFits w32 c.args.x
fits c =
    halved_fits {w = w32} c.args.x (passed (halved (2 ^ 31)) c.ranges.x c.halved.ensures (ap not c.if-not-halved.false))

pub returns-then-not-halved : goal.returns-then-not-halved
returns-then-not-halved c = rw (refused (halved (2 ^ 31)) c.ranges.x c.halved.ensures (ap not c.if-not-halved.true))

pub overflow_cast-x : goal.overflow_cast-x
overflow_cast-x c = simp (to_z-of_z, c.ranges.x) (fits (goal.at.overflow_cast-x c).Else-not-halved)

pub returns : goal.returns
returns c =
    rw (passed (halved (2 ^ 31)) c.ranges.x c.halved.ensures (ap not c.if-not-halved.false))
    (c.turned_four.ensures ∙ simp (to_z-of_z, c.ranges.x, fits (goal.at.returns c).Else-not-halved))
