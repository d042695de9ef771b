-- The digits of what is left of the number belong before those that are put; each turn puts one.
use mathlib.Core.Path.{◌≡◌}
use Prim.Native.Nat.{◌-◌}
use native.Mathlib.Omega.{arith}
use Rattle.report_row.proofs.PutLaws.{left_all, left_less, left_none}
use Rattle.report_row.proofs.pieces.put_padded.Goals as goal

pub loop-to-init : goal.loop-to-init
loop-to-init c = left_all _ _ _ _

pub loop-to-preserved : goal.loop-to-preserved
loop-to-preserved c = left_less c.requires c.loop-to.invariant c.loop-to-test.true

pub returns : goal.returns
returns c =
    let e : c.loop-to.to ≡ c.args.at - c.args.places = omega (arith, c.loop-to.invariant.place, c.requires.free) in
    rw e at (left_none c.requires c.loop-to.invariant c.loop-to-test.false)
