-- The tests, one after the other.
use mathlib.Core.Path.{◌≡◌, sym, ◌∙◌}
use mathlib.Core.Bool.{true, ◌&&◌}
use lib.Dec.{eqb}
use borrow.Author.Tests.{le-leb, lt-leb}
use Rattle.interval.specs.Tally.{in_range, book_end}
use Rattle.lister.specs.Promises.{list_tests}
use Rattle.lister.proofs.list.tested.Goals as goal
use Rattle.lister.proofs.list.tested.Goals.{Else-not-ended}

ended_true : (c : Else-not-ended) → let t = c.args.tally in (in_range t && eqb t.records (book_end t)) ≡ true
ended_true c = sym c.ended.ensures ∙ c.if-not-ended.false

pub returns-then-not-ended : goal.returns-then-not-ended
unfolding list_tests
returns-then-not-ended c = rw (sym c.ended.ensures ∙ c.if-not-ended.true)

pub returns-then-bytes-tally : goal.returns-then-bytes-tally
unfolding list_tests
returns-then-bytes-tally c = rw (ended_true (goal.at.returns-then-bytes-tally c).Else-not-ended, lt-leb _ _ c.if-bytes-tally.true)

pub returns-then-not-room_for_any : goal.returns-then-not-room_for_any
unfolding list_tests
returns-then-not-room_for_any c =
    rw (
      ended_true (goal.at.returns-then-not-room_for_any c).Else-not-ended,
      le-leb _ _ c.if-bytes-tally.false,
      sym c.room_for_any.ensures ∙ c.if-not-room_for_any.true,
    )

pub returns : goal.returns
unfolding list_tests
returns c =
    rw (
      ended_true (goal.at.returns c).Else-not-ended,
      le-leb _ _ c.if-bytes-tally.false,
      sym c.room_for_any.ensures ∙ c.if-not-room_for_any.false,
    )
