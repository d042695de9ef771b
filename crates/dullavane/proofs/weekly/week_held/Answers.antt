-- The tests in their order.
use mathlib.Core.Path.{sym, ◌∙◌, ap}
use lib.ListN.{get_or}
use borrow.Author.Tests.{leb-true, leb-false}
use Rattle.dullavane.specs.Words.{handed}
use Rattle.dullavane.proofs.WeeklyLaws.{week_short, week_wide, week_there}
use Rattle.dullavane.proofs.weekly.week_held.Goals as goal

pub returns-then-words-lt-WEEK_WORDS : goal.returns-then-words-lt-WEEK_WORDS
returns-then-words-lt-WEEK_WORDS c =
    sym (ap handed (week_short c.args.words.now c.if-words-lt-WEEK_WORDS.true))

pub returns-then-is_wide : goal.returns-then-is_wide
returns-then-is_wide c =
    let ws = c.args.words.now in
    sym (ap handed (week_wide ws c.if-words-lt-WEEK_WORDS.false (leb-true 281_474_976_710_656 (get_or ws 1 0) (sym c.is_wide.ensures ∙ c.if-is_wide.true))))

pub week_in-requires : goal.week_in-requires
week_in-requires c =
    let ws = c.args.words.now in
    week_there ws c.if-words-lt-WEEK_WORDS.false (leb-false 281_474_976_710_656 (get_or ws 1 0) (sym c.is_wide.ensures ∙ c.if-is_wide.false))

pub returns : goal.returns
returns c = sym (ap handed c.week_in.ensures)
