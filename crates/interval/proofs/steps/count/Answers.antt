-- One test tells whether a record more can be counted.
use borrow.Author.Tests.{le-ltb, lt-ltb}
use Rattle.interval.specs.Calls.{count_step}
use Rattle.interval.proofs.steps.count.Goals as goal

pub returns-then-tally-ge-MOST_RECORDS : goal.returns-then-tally-ge-MOST_RECORDS
unfolding count_step
returns-then-tally-ge-MOST_RECORDS c = rw (le-ltb _ 550 c.if-tally-ge-MOST_RECORDS.true) c.refuse.ensures

pub returns : goal.returns
unfolding count_step
returns c = rw (lt-ltb _ 550 c.if-tally-ge-MOST_RECORDS.false)
