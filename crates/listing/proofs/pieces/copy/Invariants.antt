-- Before turn i the first i bytes are copied, the others as they came.
use mathlib.Core.Path.{◌≡◌}
use Prim.Native.Nat.{◌≤◌}
use lib.ListN.{length}
use lib.Seq.{paste}
use Rattle.listing.proofs.pieces.copy.Given as goal

abbrev pub invariant-loop-i : goal.invariant-loop-i
invariant-loop-i l = (l.i ≤ length l.source) × (l.target ≡ paste l.initial.target l.to l.source l.i)
