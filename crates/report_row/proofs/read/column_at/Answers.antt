-- The bytes passed are none of them a comma: what is left of the column is what is left of the row before one.
use mathlib.Core.Path.{◌≡◌}
use native.Mathlib.Omega.{arith}
use lib.ListN.{length}
use Rattle.report_row.proofs.SaidLaws.{none_passed, one_passed, at_comma, at_end}
use Rattle.report_row.proofs.read.column_at.Goals as goal

pub loop-end-init : goal.loop-end-init
loop-end-init c = none_passed _ _ c.requires

pub returns-then-row-end-eq44 : goal.returns-then-row-end-eq44
returns-then-row-end-eq44 c =
    at_comma _ _ _ c.loop-end.invariant c.loop-end-test.true c.if-row-end-eq44.true

pub loop-end-preserved : goal.loop-end-preserved
loop-end-preserved c =
    one_passed _ _ _ c.loop-end.invariant c.loop-end-test.true c.if-row-end-eq44.false

pub returns : goal.returns
returns c =
    let e : c.loop-end.end ≡ length c.args.row.now = omega (arith, c.loop-end.invariant.inside) in
    rw e at (at_end _ _ _ c.loop-end.invariant c.loop-end-test.false)
