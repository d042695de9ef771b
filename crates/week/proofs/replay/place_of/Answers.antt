-- The rows left fall, and no member has more units than there are rows.
use native.Mathlib.Omega.{arith}
use Rattle.week.proofs.replay.place_of.Goals as goal

pub loop-row-init : goal.loop-row-init
loop-row-init c = (omega arith, omega arith, omega arith, omega arith)

pub loop-row-preserved : goal.loop-row-preserved
loop-row-preserved c = (omega arith, omega arith, omega arith, omega arith)
