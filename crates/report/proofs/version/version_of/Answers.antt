-- By what the word is known to be.
use borrow.Author.Tests.{not-true, not-false, lt-ltb, le-ltb}
use Rattle.report.proofs.version.version_of.Goals as goal

pub returns-then-not-word : goal.returns-then-not-word
returns-then-not-word c = let w = c.args.word in simp (not-true w.fine c.if-not-word.true)

pub returns-then-not-word-2 : goal.returns-then-not-word-2
returns-then-not-word-2 c =
    let w = c.args.word in
    simp (not-false w.fine c.if-not-word.false, not-true w.digits c.if-not-word-2.true)

pub returns-then-word : goal.returns-then-word
returns-then-word c =
    let w = c.args.word in
    simp (not-false w.fine c.if-not-word.false, not-false w.digits c.if-not-word-2.false, c.if-word.true)

pub returns-then-word-gt-MOST : goal.returns-then-word-gt-MOST
returns-then-word-gt-MOST c =
    let w = c.args.word in
    simp (
      not-false w.fine c.if-not-word.false,
      not-false w.digits c.if-not-word-2.false,
      c.if-word.false,
      lt-ltb 65_535 w.size c.if-word-gt-MOST.true,
    )

pub returns : goal.returns
returns c =
    let w = c.args.word in
    rw (
      not-false w.fine c.if-not-word.false,
      not-false w.digits c.if-not-word-2.false,
      c.if-word.false,
      le-ltb 65_535 w.size c.if-word-gt-MOST.false,
    )
