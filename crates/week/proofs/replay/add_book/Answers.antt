-- Both stretches of weeks are within all of them.
use native.Mathlib.Omega.{arith}
use Rattle.week.proofs.replay.add_book.Goals as goal

pub add_weeks-requires : goal.add_weeks-requires
add_weeks-requires c = (omega arith, omega arith)

pub add_weeks-requires-2 : goal.add_weeks-requires-2
add_weeks-requires-2 c = (omega arith, omega arith)
