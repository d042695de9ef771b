-- By what the word is known to be.
use Rattle.std.specs.Prelude.{Some}
use mathlib.Core.Path.{ap, ◌∙◌}
use mir.Syntax.{w64}
use Rattle.integers.proofs.Casts.{back, toZ_small}
use borrow.Author.Tests.{not-false, lt-ltb}
use Rattle.numerals.specs.Numerals.{most}
use Rattle.numerals.proofs.number_in.Goals as goal

pub returns : goal.returns
returns c =
    let w = c.args.word in
    simp (
      not-false w.fine c.if-not-word.false,
      not-false w.digits c.if-not-word-2.false,
      c.if-word.false,
      lt-ltb w.size most c.if-word-ge-MOST.false,
    )
    (ap Some (back w64 c.signed_eight.type_inv (c.signed_eight.ensures.reply ∙ toZ_small w64 {n = w.size} c.if-word-ge-MOST.false)))
