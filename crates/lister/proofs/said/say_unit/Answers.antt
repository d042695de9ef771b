-- Where the line plainly has no room nothing is said. Else it is put together at the end of its own text, and goes from there behind what stands.
use native.Mathlib.Omega.{arith}
use Rattle.lister.proofs.SaidLaws.{words_some, line_part, said_nothing, said_line}
use Rattle.lister.proofs.said.say_unit.Goals as goal

pub returns-then-has_no_room : goal.returns-then-has_no_room
returns-then-has_no_room c =
    let none = c.has_no_room.ensures c.if-has_no_room.true c.args.number c.args.standing in
    said_nothing (words_some _) (omega (arith, none, c.requires))

pub append-requires : goal.append-requires
append-requires c =
    (line_part c.unit_line-start.ensures.line_written (words_some _), c.requires)

pub returns : goal.returns
returns c =
    said_line c.unit_line-start.ensures.line_written c.append.ensures
