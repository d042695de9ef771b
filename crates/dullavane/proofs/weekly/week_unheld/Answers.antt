-- The tests in their order.
use mathlib.Core.Path.{sym, ◌∙◌, ap}
use lib.ListN.{get_or}
use borrow.Author.Tests.{leb-true, leb-false}
use Rattle.dullavane.specs.Words.{reply_number}
use Rattle.dullavane.proofs.WeeklyLaws.{week_short, week_wide, week_there}
use Rattle.dullavane.proofs.weekly.week_unheld.Goals as goal

pub returns-then-words-lt-WEEK_WORDS : goal.returns-then-words-lt-WEEK_WORDS
returns-then-words-lt-WEEK_WORDS c =
    c.refusal_number.ensures ∙ sym (ap reply_number (week_short c.args.words.now c.if-words-lt-WEEK_WORDS.true))

pub returns-then-is_wide : goal.returns-then-is_wide
returns-then-is_wide c =
    let ws = c.args.words.now in
    c.refusal_number-then-is_wide.ensures
    ∙ sym (ap reply_number (week_wide ws c.if-words-lt-WEEK_WORDS.false (leb-true 281_474_976_710_656 (get_or ws 1 0) (sym c.is_wide.ensures ∙ c.if-is_wide.true))))

pub returns : goal.returns
returns c =
    let ws = c.args.words.now in
    sym (ap reply_number (week_there ws c.if-words-lt-WEEK_WORDS.false (leb-false 281_474_976_710_656 (get_or ws 1 0) (sym c.is_wide.ensures ∙ c.if-is_wide.false))).week)
