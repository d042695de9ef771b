-- Before a row every home passed is in range; the first that is not ends the loop.
use mathlib.Core.Path.{◌≡◌, sym}
use mathlib.Core.Bool.{Bool}
use Prim.Native.Nat.{ℕ}
use native.Mathlib.Omega.{arith}
use lib.Dec.{leb}
use lib.ListN.{get_or}
use borrow.Author.Tests.{le-leb, lt-leb}
use Rattle.integers.proofs.Sums.{every_step, every_none, every_fails}
use Rattle.panel.proofs.tested.homes_in_range.Goals as goal
use Rattle.panel.proofs.tested.homes_in_range.Goals.{At-loop-row}

abbrev tests : At-loop-row → ℕ → Bool
tests l i = leb (get_or l.args.homes.now i 0) 10

pub loop-row-init : goal.loop-row-init
loop-row-init c = (omega arith, every_none _)

pub returns-then-homes-row-gt-PASSED_OVER : goal.returns-then-homes-row-gt-PASSED_OVER
returns-then-homes-row-gt-PASSED_OVER c =
    sym (every_fails c.args.units (tests (goal.at.returns-then-homes-row-gt-PASSED_OVER c).At-loop-row) c.loop-row.row (omega arith) (lt-leb _ _ c.if-homes-row-gt-PASSED_OVER.true))

pub loop-row-preserved : goal.loop-row-preserved
loop-row-preserved c = (omega arith, every_step _ (tests (goal.at.loop-row-preserved c).At-loop-row) c.loop-row.invariant.1 (le-leb _ _ c.if-homes-row-gt-PASSED_OVER.false))

pub returns : goal.returns
returns c = let e : c.loop-row.row ≡ c.args.units = omega arith in sym (rw e at c.loop-row.invariant.1)
