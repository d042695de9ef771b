-- The bits of a number below zero, read as signed.
use Rattle.std.specs.Prelude.{Some}
use mathlib.Core.Path.{ap, ◌∙◌}
use native.Mathlib.Omega.{arith}
use borrow.Author.Tests.{le-leb, lt-leb}
use Rattle.numerals.specs.Numerals.{most}
use mir.Syntax.{w64}
use Rattle.integers.proofs.Casts.{back}
use Rattle.numerals.proofs.NumeralsLaws.{bits_below}
use Rattle.numerals.proofs.turned.Goals as goal

pub returns-then-size-gt-MOST : goal.returns-then-size-gt-MOST
returns-then-size-gt-MOST c = simp (lt-leb _ most c.if-size-gt-MOST.true)

pub returns-then-size-eq0 : goal.returns-then-size-eq0
returns-then-size-eq0 c = rw c.if-size-eq0.true

pub returns : goal.returns
returns c =
    let n = c.args.size in
    rw (le-leb n most (omega arith)) (ap Some (back w64 c.signed_eight.type_inv (c.signed_eight.ensures.reply ∙ bits_below n (omega arith) (omega arith))))
