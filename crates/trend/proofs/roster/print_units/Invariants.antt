-- The units left fall.
use Prim.Native.Nat.{◌≤◌}
use Rattle.trend.proofs.roster.print_units.Given as goal

abbrev pub invariant-loop-unit : goal.invariant-loop-unit
invariant-loop-unit l =
    l.unit ≤ l.units
