-- What is lent to the reading starts behind what is to stay.
use Prim.Native.Nat.{◌-◌}
use native.Mathlib.Omega.{arith}
use borrow.Rule.Slice.PartMut.{take_put}
use Rattle.intake.proofs.whole.read_between.Goals as goal

pub returns-in-Ok : goal.returns-in-Ok
returns-in-Ok g c =
    let a = c.args in
    record {
      inside = omega (arith, c.in-Ok.ensures.bound);
      before = take_put a.from (a.to - a.from) a.bytes.now c.read.new.buf (omega arith);
      bytes = λ i. omega (arith, c.type_inv.bytes i);
    }

pub returns-in-Err : goal.returns-in-Err
returns-in-Err g c =
    let a = c.args in
    record {
      inside = omega arith;
      before = take_put a.from (a.to - a.from) a.bytes.now c.read.new.buf (omega arith);
      bytes = λ i. omega (arith, c.type_inv.bytes i);
    }
