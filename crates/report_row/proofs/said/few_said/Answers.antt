-- What is left of the bytes, read after the number so far, says what all of them say; the number has no more digits than bytes were read.
use mathlib.Core.Path.{◌≡◌, ◌∙◌, ap}
use Prim.Native.Nat.{◌<◌}
use native.Mathlib.Omega.{arith}
use lib.ListN.{length, take}
use lib.Seq.{length-take-le}
use Rattle.std.proofs.lemmas.List.{get_or-take}
use Rattle.rules.specs.ReportRead.{with_digit}
use Rattle.report_row.proofs.SaidLaws.{few_none, few_one, few_small}
use Rattle.report_row.proofs.said.few_said.Goals as goal

pub loop-byte-init : goal.loop-byte-init
loop-byte-init c = (omega arith, few_none _)

pub with_digit-number-requires : goal.with_digit-number-requires
with_digit-number-requires c = few_small c.loop-byte.invariant.1 (omega arith)

pub loop-byte-preserved : goal.loop-byte-preserved
loop-byte-preserved c =
    let a = c.args in
    let l = c.loop-byte in
    let long : length (take a.count a.bytes.now) ≡ a.count = length-take-le a.count a.bytes.now c.requires.1 in
    let more : l.byte-index < a.count = omega (arith, long, c.loop-byte-test.true) in
    let byte = get_or-take a.count a.bytes.now l.byte-index 0 more in
    (omega (arith, more), few_one l.invariant.1 _ (omega (arith, more, c.requires.1)) (c.with_digit-number.ensures ∙ ap (with_digit l.number) byte))

pub returns : goal.returns
returns c =
    let a = c.args in
    let long : length (take a.count a.bytes.now) ≡ a.count = length-take-le a.count a.bytes.now c.requires.1 in
    let e : c.loop-byte.byte-index ≡ a.count = omega (arith, long) in
    record { within = few_small c.loop-byte.invariant.1 (omega arith); is = rw e at c.loop-byte.invariant.1.is }
