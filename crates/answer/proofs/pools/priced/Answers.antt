-- The product is at most 10,000,000 times 7,680,000,000.
use native.Mathlib.Nat.{mul-le-mul}
use native.Mathlib.Omega.{arith}
use Rattle.answer.proofs.pools.priced.Goals as goal

pub overflow_mul-price : goal.overflow_mul-price
overflow_mul-price c = omega (arith, mul-le-mul c.requires.0 c.requires.1)

pub nearest_cent-requires : goal.nearest_cent-requires
nearest_cent-requires c = (omega (arith, mul-le-mul c.requires.0 c.requires.1), omega arith, omega arith)
