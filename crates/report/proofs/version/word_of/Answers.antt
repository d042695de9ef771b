-- What the bytes left make of the word as it stands is what all of them make of none.
use mathlib.Core.Path.{◌≡◌, sym, ◌∙◌, ap}
use Prim.Native.Nat.{ℕ, ◌+◌}
use native.Mathlib.Omega.{arith}
use lib.ListN.{length, drop}
use Rattle.numerals.specs.declared.Word.{Word}
use Rattle.report.specs.Version.{bytes_added}
use Rattle.report.proofs.VersionLaws.{bytes_next, bytes_all}
use Rattle.report.proofs.version.word_of.Goals as goal

pub loop-byte-init : goal.loop-byte-init
loop-byte-init c = ap (λ (w : Word). bytes_added w c.args.bytes.now) c.no_word-word.ensures

pub loop-byte-preserved : goal.loop-byte-preserved
loop-byte-preserved c =
    let l = c.loop-byte in
    let bytes = c.args.bytes.now in
    ap (λ (w : Word). bytes_added w (drop (l.byte-index + 1) bytes)) c.longer-word.ensures
    ∙ sym (bytes_next bytes l.byte-index l.word c.loop-byte-test.true) ∙ l.invariant

pub returns : goal.returns
returns c =
    let l = c.loop-byte in
    let bytes = c.args.bytes.now in
    let all : l.byte-index ≡ length bytes = omega arith in
    sym (bytes_all bytes l.word) ∙ ap (λ (i : ℕ). bytes_added l.word (drop i bytes)) (sym all) ∙ l.invariant
