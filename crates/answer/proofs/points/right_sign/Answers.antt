-- For lower, FM below zero is the mirror of FM above zero.
use mir.Facts.{to_z-of_z}
use Rattle.laws.proofs.SeriesLaws.{mirrored}
use Rattle.answer.proofs.points.right_sign.Goals as goal

pub returns-in-Raise : goal.returns-in-Raise
returns-in-Raise c = rw (to_z-of_z c.ranges.weighed, c.in-Raise.is)

pub returns-in-Lower : goal.returns-in-Lower
returns-in-Lower c = rw (to_z-of_z c.ranges.weighed, c.in-Lower.is) (mirrored 0 c.args.weighed)
