-- So many of the byte stand before `at` as the loop has turned; each turn puts one more.
use mathlib.Core.Path.{◌≡◌}
use Prim.Native.Nat.{◌-◌}
use native.Mathlib.Omega.{arith}
use Rattle.pages.proofs.RepeatedLaws.{none_stand, one_stands, all_stand}
use Rattle.pages.proofs.pieces.put_repeated.Goals as goal

pub loop-to-init : goal.loop-to-init
loop-to-init c = (none_stand _ _ _, omega arith, omega arith)

pub bounds-text-to : goal.bounds-text-to
bounds-text-to c = omega (arith, c.loop-to.invariant.0.put.size)

pub loop-to-preserved : goal.loop-to-preserved
loop-to-preserved c =
    (one_stands c.requires.inside c.loop-to.invariant.0 (omega arith), omega arith, omega arith)

pub returns : goal.returns
returns c =
    let e : c.loop-to.to ≡ c.args.at - c.args.count = omega arith in
    rw e at (all_stand c.requires.inside c.loop-to.invariant.0 c.args.count c.requires.free (omega arith) (omega arith))
