-- The standing's word at the right end, by the standing.
use Rattle.rules.specs.Text.{text}
use Rattle.pages.proofs.lines.put_standing.Goals as goal

pub returns-in-Live : goal.returns-in-Live
unfolding text
returns-in-Live c =
    rw c.in-Live.is c.put_top.ensures

pub returns-in-Default : goal.returns-in-Default
unfolding text
returns-in-Default c =
    rw c.in-Default.is c.put_top-in-Default.ensures
