-- So many of the byte stand before `at` as the loop has turned; each turn puts one more.
use Prim.Native.Nat.{◌≤◌}
use Rattle.pages.proofs.RepeatedLaws.{Stands}
use Rattle.pages.proofs.pieces.put_repeated.Given as goal

abbrev pub invariant-loop-to : goal.invariant-loop-to
invariant-loop-to l = Stands l.byte l.at l.initial.text l.to l.text × (l.from ≤ l.to) × (l.to ≤ l.at)
