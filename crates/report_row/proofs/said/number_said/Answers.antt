-- What is left of the bytes, read after the number so far, says what all of them say. That never falls, so past the most it is more than the most.
use mathlib.Core.Path.{◌≡◌, sym, ◌∙◌, ap}
use Prim.Native.Nat.{◌+◌, ◌<◌}
use native.Mathlib.Omega.{arith}
use lib.ListN.{length}
use Rattle.std.proofs.lemmas.List.Edits.{length-between, get_or-between}
use Rattle.rules.specs.ReportRead.{with_digit}
use Rattle.report_row.proofs.SaidLaws.{said_one, said_over, said_all, few_over}
use Rattle.report_row.proofs.said.number_said.Goals as goal

pub few_said-number-requires : goal.few_said-number-requires
few_said-number-requires c = c.first_few-count.ensures

pub returns-then-most-number : goal.returns-then-most-number
returns-then-most-number c = sym (few_over c.few_said-number.ensures c.if-most-number.true)

pub loop-byte-init : goal.loop-byte-init
loop-byte-init c =
    let e : c.first_few-count.result + 0 ≡ c.first_few-count.result = omega arith in
    record { inside = omega (arith, c.first_few-count.ensures.1); within = c.if-most-number.false; is = rw e c.few_said-number.ensures.is }

pub returns-then-most-number-2 : goal.returns-then-most-number-2
returns-then-most-number-2 c =
    let l = c.loop-byte in
    let bytes = c.args.bytes.now in
    let count = c.first_few-count.result in
    let long = length-between bytes count (length bytes) (omega arith) in
    let more : count + l.byte-index < length bytes = omega (arith, long, c.loop-byte-test.true) in
    let byte = get_or-between bytes count (length bytes) l.byte-index 0 more in
    sym (said_over l.invariant _ more (c.with_digit-number.ensures ∙ ap (with_digit l.number) byte) c.if-most-number-2.true)

pub loop-byte-preserved : goal.loop-byte-preserved
loop-byte-preserved c =
    let l = c.loop-byte in
    let bytes = c.args.bytes.now in
    let count = c.first_few-count.result in
    let long = length-between bytes count (length bytes) (omega arith) in
    let more : count + l.byte-index < length bytes = omega (arith, long, c.loop-byte-test.true) in
    let byte = get_or-between bytes count (length bytes) l.byte-index 0 more in
    let next : count + (l.byte-index + 1) ≡ count + l.byte-index + 1 = omega arith in
    rw next (said_one l.invariant _ more (c.with_digit-number.ensures ∙ ap (with_digit l.number) byte) c.if-most-number-2.false)

pub returns : goal.returns
returns c =
    let bytes = c.args.bytes.now in
    let count = c.first_few-count.result in
    let long = length-between bytes count (length bytes) (omega arith) in
    sym (said_all c.loop-byte.invariant (omega (arith, long, c.loop-byte-test.false)))
