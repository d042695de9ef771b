-- Fewer than eight words are told first, then a word over its width. What is left holds a tally.
use mathlib.Core.Path.{◌≡◌, refl, sym, ◌∙◌, ap}
use mathlib.Core.Bool.{true}
use native.Mathlib.Omega.{arith}
use lib.Dec.{leb}
use lib.ListN.{length}
use borrow.Author.Tests.{le-leb, lt-leb}
use Rattle.dullavane.specs.Words.{handed, tally_words}
use Rattle.dullavane.proofs.WordsLaws.{held_by, narrowed}
use Rattle.dullavane.proofs.words.held.Goals as goal
use Rattle.dullavane.proofs.words.held.Goals.{After-narrow, Start}

abbrev start : After-narrow → Start
start c = (goal.at.After-narrow c).Start

long : (c : After-narrow) → leb tally_words (length (start c).args.words.now) ≡ true
long c = le-leb tally_words (length (start c).args.words.now) (omega arith)

pub returns-then-words-lt-TALLY_WORDS : goal.returns-then-words-lt-TALLY_WORDS
returns-then-words-lt-TALLY_WORDS c =
    let ws = c.args.words.now in
    sym (ap handed (held_by ws (lt-leb tally_words (length ws) (omega arith)) refl))

pub returns-then-not-narrow : goal.returns-then-not-narrow
returns-then-not-narrow c =
    sym (ap handed (held_by _ (long (goal.at.returns-then-not-narrow c).After-narrow) (sym c.narrow.ensures ∙ c.if-not-narrow.true)))

pub tally_in-requires : goal.tally_in-requires
tally_in-requires c =
    let fit = sym c.narrow.ensures ∙ c.if-not-narrow.false in
    record {
      long = omega arith;
      narrow = narrowed _ fit;
      tally = held_by _ (long (goal.at.tally_in-requires c).After-narrow) fit;
    }

pub returns : goal.returns
returns c = sym (ap handed c.tally_in.ensures)
