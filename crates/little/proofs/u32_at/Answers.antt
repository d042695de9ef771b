-- The lower half, and the upper one where bytes are left for it.
use native.Mathlib.Omega.{arith}
use Rattle.little.proofs.Numbers.{halves, lower_half}
use Rattle.little.proofs.u32_at.Goals as goal

pub returns-then-bytes-place : goal.returns-then-bytes-place
returns-then-bytes-place c = lower_half 2 (omega arith) c.u16_at-low.ensures

pub returns-then-bytes-place-le2 : goal.returns-then-bytes-place-le2
returns-then-bytes-place-le2 c = lower_half 2 (omega arith) c.u16_at-low.ensures

pub returns : goal.returns
returns c = halves 2 c.u16_at-low.ensures c.u16_at.ensures
