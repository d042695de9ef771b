-- The lower half, and the upper one where bytes are left for it.
use native.Mathlib.Omega.{arith}
use Rattle.little.proofs.Numbers.{halves, lower_half}
use Rattle.little.proofs.u64_at.Goals as goal

pub returns-then-bytes-place : goal.returns-then-bytes-place
returns-then-bytes-place c = lower_half 4 (omega arith) c.u32_at-low.ensures

pub returns-then-bytes-place-le4 : goal.returns-then-bytes-place-le4
returns-then-bytes-place-le4 c = lower_half 4 (omega arith) c.u32_at-low.ensures

pub returns : goal.returns
returns c = halves 4 c.u32_at-low.ensures c.u32_at.ensures
