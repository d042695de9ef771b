-- What the bytes left make of the line as it stands is what all of them make of it as it came.
use mathlib.Core.Path.{◌≡◌}
use lib.ListN.{drop}
use Rattle.printing.specs.Lines.{line, with_bytes}
use Rattle.printing.proofs.put_bytes.Given as goal

abbrev pub invariant-loop-byte : goal.invariant-loop-byte
invariant-loop-byte l = with_bytes (drop l.byte-index l.bytes) (line l.to l.text) ≡ with_bytes l.bytes (line l.at l.initial.text)
