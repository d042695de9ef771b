-- What the bytes left make of the word as it stands is what all of them make of none.
use mathlib.Core.Path.{◌≡◌}
use lib.ListN.{drop}
use Rattle.numerals.specs.Numerals.{blank}
use Rattle.report.specs.Version.{bytes_added}
use Rattle.report.proofs.version.word_of.Given as goal

abbrev pub invariant-loop-byte : goal.invariant-loop-byte
invariant-loop-byte l = bytes_added l.word (drop l.byte-index l.bytes) ≡ bytes_added blank l.bytes
