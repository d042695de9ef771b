-- By the standing.
use mir.Facts.{to_z-of_z}
use Rattle.answer.proofs.made.member_of.Goals as goal

pub returns-in-Live : goal.returns-in-Live
returns-in-Live c =
    rw (c.in-Live.is, to_z-of_z c.ranges.performance, to_z-of_z c.ranges.unused)

pub returns-in-Default : goal.returns-in-Default
returns-in-Default c =
    rw (c.in-Default.is, to_z-of_z c.ranges.payment, to_z-of_z c.ranges.used, to_z-of_z c.ranges.unused)
