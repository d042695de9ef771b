-- The tests follow in their order.
use borrow.Author.Tests.{le-leb, lt-leb}
use Rattle.dullavane_panel.proofs.words.words_enough.Goals as goal

pub returns-then-page-lt-PAGE_WORDS : goal.returns-then-page-lt-PAGE_WORDS
returns-then-page-lt-PAGE_WORDS c = rw (lt-leb _ _ c.if-page-lt-PAGE_WORDS.true)

pub returns : goal.returns
returns c = rw (le-leb _ _ c.if-page-lt-PAGE_WORDS.false)
