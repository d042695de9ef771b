-- Fewer than sixteen words are told first, then a word over its width. What is left holds a cursor.
use mathlib.Core.Path.{◌≡◌, refl, sym, ◌∙◌, ap}
use mathlib.Core.Bool.{true}
use native.Mathlib.Omega.{arith}
use lib.Dec.{leb}
use lib.ListN.{length}
use borrow.Author.Tests.{le-leb, lt-leb}
use Rattle.dullavane.specs.Words.{reply_number}
use Rattle.dullavane_listing.specs.Cursor.{cursor_words}
use Rattle.dullavane_listing.proofs.CursorLaws.{held_by}
use Rattle.dullavane_listing.proofs.words.cursor_refusal.Goals as goal
use Rattle.dullavane_listing.proofs.words.cursor_refusal.Goals.{After-narrow, Start}

abbrev start : After-narrow → Start
start c = (goal.at.After-narrow c).Start

long : (c : After-narrow) → leb cursor_words (length (start c).args.words.now) ≡ true
long c = le-leb cursor_words (length (start c).args.words.now) (omega arith)

pub returns-then-words-lt-CURSOR_WORDS : goal.returns-then-words-lt-CURSOR_WORDS
returns-then-words-lt-CURSOR_WORDS c =
    let ws = c.args.words.now in
    c.refusal_number.ensures ∙ sym (ap reply_number (held_by ws (lt-leb cursor_words (length ws) (omega arith)) refl))

pub returns-then-not-narrow : goal.returns-then-not-narrow
returns-then-not-narrow c =
    c.refusal_number-then-not-narrow.ensures ∙ sym (ap reply_number (held_by _ (long (goal.at.returns-then-not-narrow c).After-narrow) (sym c.narrow.ensures ∙ c.if-not-narrow.true)))

pub returns : goal.returns
returns c = sym (ap reply_number (held_by _ (long (goal.at.returns c).After-narrow) (sym c.narrow.ensures ∙ c.if-not-narrow.false)))
