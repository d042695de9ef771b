-- A number without its sign, after a minus where it is below zero.
use lib.IntN.{pos}
use lib.Signed.{◌<ℤ◌, ◌≤ℤ◌}
use mir.Facts.{to_z-of_z}
use Rattle.integers.proofs.Tests.{ltZ_true, ltZ_false}
use Rattle.listing.proofs.PiecesLaws.{integer_below, integer_above}
use Rattle.report_rows.proofs.words.put_integer.Goals as goal
use Rattle.report_rows.proofs.words.put_integer.Goals.{Else-number-lt0, Then-number-lt0}

below : (c : Then-number-lt0) → c.args.number <ℤ pos 0
below c = ltZ_true (simp (to_z-of_z, c.ranges.number) at c.if-number-lt0.true)

from_zero : (c : Else-number-lt0) → pos 0 ≤ℤ c.args.number
from_zero c = ltZ_false (simp (to_z-of_z, c.ranges.number) at c.if-number-lt0.false)

pub returns-then-number-lt0 : goal.returns-then-number-lt0
returns-then-number-lt0 c =
    rw (integer_below _ (below (goal.at.returns-then-number-lt0 c).Then-number-lt0)) (rw (simp (to_z-of_z, c.ranges.number) at c.size.ensures) at c.put_below.ensures)

pub returns : goal.returns
returns c =
    rw (integer_above _ (from_zero (goal.at.returns c).Else-number-lt0)) (rw (simp (to_z-of_z, c.ranges.number) at c.size-2.ensures) at c.put_number.ensures)
