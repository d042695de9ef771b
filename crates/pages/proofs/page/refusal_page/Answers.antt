-- Spaces, and the phrase's line before them.
use Rattle.rules.specs.Panel.{refusal_page}
use Rattle.rules.specs.Phrases.{phrase}
use Rattle.pages.proofs.DrawLaws.{phrase_put, drawn_not}
use Rattle.pages.proofs.PhraseLaws.{phrase_short}
use Rattle.pages.proofs.page.refusal_page.Goals as goal

pub returns-then-text-lt-PAGE : goal.returns-then-text-lt-PAGE
returns-then-text-lt-PAGE c = drawn_not c.if-text-lt-PAGE.true

pub returns : goal.returns
unfolding refusal_page
returns c =
    phrase_put (phrase c.args.number) (phrase_short c.args.number) c.if-text-lt-PAGE.false c.put_repeated-start.ensures
    (rw c.phrase-said.ensures at c.put_word.ensures)
