-- The rows that can still be counted fall.
use Prim.Native.Nat.{◌≤◌}
use Rattle.report.proofs.rows.print_rows.Given as goal

abbrev pub invariant-loop-row : goal.invariant-loop-row
invariant-loop-row l =
    l.row ≤ 4_294_967_295
