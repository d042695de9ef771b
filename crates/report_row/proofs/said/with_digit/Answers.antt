-- The two tests are those of a digit.
use mathlib.Core.Path.{sym}
use Rattle.report_row.proofs.SaidLaws.{below_digits, above_digits, a_digit}
use Rattle.report_row.proofs.said.with_digit.Goals as goal

pub returns-then-byte-lt48 : goal.returns-then-byte-lt48
returns-then-byte-lt48 c = sym (below_digits _ _ c.if-byte-lt48.true)

pub returns-then-byte-gt57 : goal.returns-then-byte-gt57
returns-then-byte-gt57 c = sym (above_digits _ _ c.if-byte-gt57.true)

pub returns : goal.returns
returns c = sym (a_digit _ _ c.if-byte-lt48.false c.if-byte-gt57.false)
