-- By what the byte is.
use borrow.Author.Tests.{eq-eqb, ne_eqb, lt-ltb, le-ltb}
use Rattle.numerals.proofs.longer.Goals as goal

pub returns-then-word : goal.returns-then-word
returns-then-word c = simp (eq-eqb _ 45 c.if-byte-eq45.true, c.if-word.true) c.wrong.ensures

pub returns-then-byte-eq45 : goal.returns-then-byte-eq45
returns-then-byte-eq45 c = simp (eq-eqb _ 45 c.if-byte-eq45.true, c.if-word.false) c.minus_sign.ensures

pub returns-then-byte-lt48 : goal.returns-then-byte-lt48
returns-then-byte-lt48 c = simp (ne_eqb _ 45 c.if-byte-eq45.false, lt-ltb _ 48 c.if-byte-lt48.true) c.wrong-then-byte-lt48.ensures

pub returns-then-byte-gt57 : goal.returns-then-byte-gt57
returns-then-byte-gt57 c = simp (ne_eqb _ 45 c.if-byte-eq45.false, le-ltb _ 48 c.if-byte-lt48.false, lt-ltb 57 _ c.if-byte-gt57.true)
    c.wrong-then-byte-gt57.ensures

pub returns : goal.returns
returns c = simp (ne_eqb _ 45 c.if-byte-eq45.false, le-ltb _ 48 c.if-byte-lt48.false, le-ltb 57 _ c.if-byte-gt57.false)
    c.with_digit.ensures
