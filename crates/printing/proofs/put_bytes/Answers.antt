-- What the bytes left make of the line as it stands is what all of them make of it as it came.
use mathlib.Core.Path.{◌≡◌, sym, ◌∙◌, ap}
use Prim.Native.Nat.{ℕ, ◌+◌}
use native.Mathlib.Omega.{arith}
use lib.ListN.{length, drop}
use Rattle.printing.specs.Lines.{Line, line, with_bytes}
use Rattle.printing.proofs.LinesLaws.{bytes_next, bytes_all}
use Rattle.printing.proofs.put_bytes.Goals as goal

pub loop-byte-preserved : goal.loop-byte-preserved
loop-byte-preserved c =
    let l = c.loop-byte in
    let bytes = c.args.bytes.now in
    ap (λ (x : Line). with_bytes (drop (l.byte-index + 1) bytes) x) c.put_byte-to.ensures.text_after
    ∙ sym (bytes_next bytes l.byte-index (line l.to l.text) c.loop-byte-test.true) ∙ l.invariant

pub returns : goal.returns
returns c =
    let l = c.loop-byte in
    let bytes = c.args.bytes.now in
    let all : l.byte-index ≡ length bytes = omega arith in
    sym (bytes_all bytes (line l.to l.text)) ∙ ap (λ (i : ℕ). with_bytes (drop i bytes) (line l.to l.text)) (sym all) ∙ l.invariant
