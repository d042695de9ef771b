-- The line is put together at the end of its own text, and goes from there behind what stands.
use Rattle.lister.proofs.SaidLaws.{words_some, line_part, said_line}
use Rattle.lister.proofs.said.say_residual.Goals as goal

pub append-requires : goal.append-requires
append-requires c =
    (line_part c.residual_line-start.ensures.line_written (words_some _), c.requires)

pub returns : goal.returns
returns c =
    said_line c.residual_line-start.ensures.line_written c.append.ensures
