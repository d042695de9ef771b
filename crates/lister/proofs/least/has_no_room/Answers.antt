-- With plenty of room nothing is said; else the least that the line takes is held against the room.
use mathlib.Core.Path.{sym}
use mathlib.Core.Bool.{true≢false}
use native.Mathlib.Omega.{arith}
use borrow.Author.Tests.{ltb-true}
use Rattle.lister.proofs.least.has_no_room.Goals as goal

pub returns-then-room-ge-PLENTY : goal.returns-then-room-ge-PLENTY
returns-then-room-ge-PLENTY c = λ e. absurd (true≢false (sym e))

pub returns : goal.returns
returns c =
    λ e number standing.
    let less = ltb-true c.args.room c.least_line.result e in
    omega (arith, less, c.least_line.ensures number standing)
