-- The tests follow in their order; the residual has no number.
use borrow.Author.Tests.{le-ltb, lt-ltb}
use Rattle.dullavane_panel.specs.Words.{member_narrow}
use Rattle.dullavane_panel.proofs.WordsLaws.{residual_narrow}
use Rattle.dullavane_panel.proofs.words.member_narrow.Goals as goal

pub returns-then-standing-ge-STANDINGS : goal.returns-then-standing-ge-STANDINGS
unfolding member_narrow
returns-then-standing-ge-STANDINGS c = rw (le-ltb _ _ c.if-standing-ge-STANDINGS.true)

pub returns-then-residual-eq0 : goal.returns-then-residual-eq0
unfolding member_narrow
returns-then-residual-eq0 c = rw (lt-ltb _ _ c.if-standing-ge-STANDINGS.false, c.if-residual-eq0.true)

pub returns : goal.returns
unfolding member_narrow
returns c =
    let s = c.args in
    rw (lt-ltb _ _ c.if-standing-ge-STANDINGS.false) (residual_narrow s.residual s.number c.if-residual-eq0.false)
