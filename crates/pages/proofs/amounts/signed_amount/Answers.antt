-- The sign is told by the comparison with zero, the size by `size`.
use mir.Facts.{to_z-of_z}
use Rattle.pages.proofs.amounts.signed_amount.Goals as goal

pub returns : goal.returns
returns c =
    rw (to_z-of_z c.ranges.x, simp (to_z-of_z, c.ranges.x) at c.size.ensures)
