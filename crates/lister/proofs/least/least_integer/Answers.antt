-- A number below zero has its minus before the digits of its size.
use native.Mathlib.Omega.{arith}
use lib.IntN.{nat_abs}
use lib.ListN.{length-append}
use mir.Facts.{to_z-of_z}
use Rattle.integers.proofs.Tests.{ltZ_true, ltZ_false}
use Rattle.rules.specs.Text.{text, natural}
use Rattle.listing.proofs.PiecesLaws.{digits_most, integer_below, integer_above}
use Rattle.lister.proofs.least.least_integer.Goals as goal

pub overflow_add-result : goal.overflow_add-result
overflow_add-result c = omega (arith, c.least_digits.ensures, digits_most 20 c.size.result)

pub returns-then-x-lt0 : goal.returns-then-x-lt0
unfolding text
returns-then-x-lt0 c =
    let x = c.args.x in
    let size = simp (to_z-of_z, c.ranges.x) at c.size.ensures in
    rw (integer_below x (ltZ_true (simp (to_z-of_z, c.ranges.x) at c.if-x-lt0.true)), length-append (text "-") (natural (nat_abs x)))
    (omega (arith, rw size at c.least_digits.ensures))

pub returns : goal.returns
returns c =
    let size = simp (to_z-of_z, c.ranges.x) at c.size-2.ensures in
    rw (integer_above c.args.x (ltZ_false (simp (to_z-of_z, c.ranges.x) at c.if-x-lt0.false))) (rw size at c.least_digits-2.ensures)
