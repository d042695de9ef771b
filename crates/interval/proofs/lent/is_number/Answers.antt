-- Two signed tests: a number that is neither below nor above is it.
use mathlib.Core.Path.{◌≡◌}
use native.Mathlib.Omega.{arith}
use lib.IntN.{pos}
use mir.Syntax.{w64}
use mir.Val.{to_z}
use mir.Facts.{to_z-of_z}
use Rattle.integers.proofs.Casts.{toZ_small}
use Rattle.interval.proofs.LentLaws.{number_below, number_above}
use Rattle.interval.proofs.lent.is_number.Goals as goal
use Rattle.interval.proofs.lent.is_number.Goals.{Start}

number : (s : Start) → to_z w64 s.args.interval ≡ pos s.args.interval
number s = toZ_small w64 (omega (arith, s.ranges.interval.fits))

pub returns-then-figure-number : goal.returns-then-figure-number
returns-then-figure-number c =
    rw (number_below c.args.interval c.args.figure (rw (to_z-of_z c.ranges.figure, number (goal.at.returns-then-figure-number c).Start) at c.if-figure-number.true))

pub returns : goal.returns
returns c =
    rw (to_z-of_z c.ranges.figure, number (goal.at.returns c).Start)
    (number_above c.args.interval c.args.figure (rw (to_z-of_z c.ranges.figure, number (goal.at.returns c).Start) at c.if-figure-number.false))
