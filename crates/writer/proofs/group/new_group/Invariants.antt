-- None of the units passed has the group. A group of 16 bits that is not 0 is told from a row's number as it is: one that does not fit its field is another.
use mathlib.Core.Path.{◌≡◌}
use mathlib.Core.Bool.{true}
use Prim.Native.Nat.{◌≤◌}
use Rattle.writer.specs.Judged.{new_before}
use Rattle.writer.proofs.group.new_group.Given as goal

abbrev pub invariant-loop-i : goal.invariant-loop-i
invariant-loop-i l = (l.i ≤ l.unit) × (new_before l.group l.rows l.i ≡ true)
