-- The lower half, and the upper one where bytes are left for it.
use native.Mathlib.Omega.{arith}
use Rattle.little.proofs.Numbers.{halves, lower_half}
use Rattle.little.proofs.u16_at.Goals as goal

pub returns-then-bytes-place : goal.returns-then-bytes-place
returns-then-bytes-place c = lower_half 1 (omega arith) c.u8_at-low.ensures

pub returns : goal.returns
returns c = halves 1 c.u8_at-low.ensures c.u8_at.ensures
