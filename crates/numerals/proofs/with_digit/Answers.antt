-- Past a tenth of the limit every digit goes past it.
use Prim.Native.Nat.{◌+◌, ◌*◌}
use native.Mathlib.Omega.{arith}
use borrow.Author.Tests.{le-leb, lt-leb}
use Rattle.numerals.specs.Numerals.{most}
use Rattle.numerals.proofs.with_digit.Goals as goal

pub returns-then-word : goal.returns-then-word
returns-then-word c = let a = c.args in simp (lt-leb (10 * a.word.size + a.digit) most (omega arith)) c.wrong.ensures

pub returns-then-size-gt-MOST : goal.returns-then-size-gt-MOST
returns-then-size-gt-MOST c = simp (lt-leb _ most c.if-size-gt-MOST.true) c.wrong-then-size-gt-MOST.ensures

pub returns : goal.returns
returns c = simp (le-leb _ most c.if-size-gt-MOST.false)
