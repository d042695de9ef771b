-- The number is below zero and not too far, so what it is turned to fits.
use native.Mathlib.Omega.{arith}
use lib.IntN.{pos, negsuc, ◌-ℤ◌}
use mir.Facts.{to_z-of_z}
use mir.Syntax.{w64}
use mir.Val.{SFits}
use Rattle.integers.proofs.Pairs.{v, ◌⊖◌, le!, le?, lt_in}
use Rattle.integers.proofs.Bounds.{fits! }
use Rattle.integers.proofs.Casts.{to_unsigned}
use Rattle.records.proofs.say.size.Goals as goal
use Rattle.records.proofs.say.size.Goals.{Start}

turned : (c : Start) → SFits w64 (pos 0 -ℤ c.args.x)
turned c =
    fits! w64 (v (pos 0) ⊖ v c.args.x)
    (omega (arith, le? (v (negsuc 999999999999999999)) (v c.args.x) c.requires.0))
    (omega (arith, lt_in c.requires.1))

pub overflow_sub-result : goal.overflow_sub-result
overflow_sub-result c = rw (to_z-of_z c.ranges.x) (turned (goal.at.overflow_sub-result c).Start)

pub overflow_cast-result : goal.overflow_cast-result
overflow_cast-result c = simp (to_z-of_z c.ranges.x, to_z-of_z (turned (goal.at.overflow_cast-result c).Start)) (to_unsigned tt (turned (goal.at.overflow_cast-result c).Start)
    (le! (v (pos 0)) (v (pos 0) ⊖ v c.args.x) (omega (arith, lt_in c.requires.1))))
