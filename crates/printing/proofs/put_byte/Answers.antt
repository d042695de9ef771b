-- A byte is stored within the place, and nothing past it.
use mathlib.Core.Path.{sym}
use native.Mathlib.Omega.{arith}
use Rattle.printing.specs.Lines.{line}
use Rattle.printing.proofs.LinesLaws.{byte_put, byte_past}
use Rattle.printing.proofs.put_byte.Goals as goal

pub returns-then-at-ge-TEXT : goal.returns-then-at-ge-TEXT
returns-then-at-ge-TEXT c =
    let a = c.args in
    record { text_after = sym (byte_past a.byte (line a.at a.text.now) c.if-at-ge-TEXT.true); upper_bound = omega arith }

pub returns : goal.returns
returns c =
    let a = c.args in
    record { text_after = sym (byte_put a.byte (line a.at a.text.now) c.if-at-ge-TEXT.false); upper_bound = omega (arith, c.if-at-ge-TEXT.false) }
