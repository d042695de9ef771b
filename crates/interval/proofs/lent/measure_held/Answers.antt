-- A measure past the limit of FM is marked; without the mark it fits, since it is above 0.
use mathlib.Core.Path.{◌≡◌}
use mathlib.Core.Bool.{true}
use Prim.Native.Nat.{◌<◌, ◌^◌}
use native.Mathlib.Omega.{arith}
use lib.IntN.{ℤ, pos, negsuc, ◌-ℤ◌}
use mir.Syntax.{w32}
use mir.Val.{SFits}
use mir.Facts.{to_z-of_z}
use Rattle.integers.specs.Pairs.{gain}
use Rattle.integers.proofs.Pairs.{v, ◌⊖◌, lt?}
use Rattle.integers.proofs.Bounds.{fits! }
use Rattle.integers.proofs.Tests.{ltZ_true}
use Rattle.rules.specs.Quantities.{measure_limit}
use Rattle.interval.specs.Lent.{mark, is_marked, measure_held}
use Rattle.interval.proofs.lent.measure_held.Goals as goal
use Rattle.interval.proofs.lent.measure_held.Goals.{Then-most-measure}

past : (c : Then-most-measure) → is_marked c.args.measure ≡ true
past c = rw (to_z-of_z c.ranges.measure) at c.if-most-measure.true

-- a number that fits 32 bits is below their half
high : (x : ℤ) → SFits w32 x → gain x < 2 ^ 31
high (pos n) f = f.sfits
high (negsuc n) f = omega arith

off_fits : (x : ℤ) → SFits w32 x → is_marked x ≡ true → SFits w32 (x -ℤ pos mark)
off_fits x f e =
    let above = lt? (v (pos measure_limit)) (v x) (ltZ_true e) in
    fits! w32 (v x ⊖ v (pos mark)) (omega (arith, high x f)) (omega arith)

pub overflow_sub-result : goal.overflow_sub-result
overflow_sub-result c = let f = c.ranges.measure in rw (to_z-of_z f) (off_fits c.args.measure f (past (goal.at.overflow_sub-result c).Then-most-measure))

pub returns-then-most-measure : goal.returns-then-most-measure
unfolding measure_held
returns-then-most-measure c =
    let f = c.ranges.measure in
    rw (to_z-of_z f, past (goal.at.returns-then-most-measure c).Then-most-measure) (to_z-of_z (off_fits c.args.measure f (past (goal.at.returns-then-most-measure c).Then-most-measure)))

pub returns : goal.returns
unfolding measure_held
returns c =
    let f = c.ranges.measure in
    rw (to_z-of_z f, rw (to_z-of_z f) at c.if-most-measure.false)
