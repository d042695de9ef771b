-- Each branch settles one test of the definition.
use borrow.Author.Tests.{lt-ltb, le-ltb}
use Rattle.interval.specs.Tally.{record_place}
use Rattle.interval.proofs.steps.next_place.Goals as goal

pub returns-then-tally-lt1 : goal.returns-then-tally-lt1
unfolding record_place
returns-then-tally-lt1 c = rw (lt-ltb _ _ c.if-tally-lt1.true)

pub returns-then-tally-lt-BEFORE_UNITS : goal.returns-then-tally-lt-BEFORE_UNITS
unfolding record_place
returns-then-tally-lt-BEFORE_UNITS c = rw (le-ltb _ _ c.if-tally-lt1.false, lt-ltb _ _ c.if-tally-lt-BEFORE_UNITS.true)

pub returns-then-past-tally : goal.returns-then-past-tally
unfolding record_place
returns-then-past-tally c =
    rw (le-ltb _ _ c.if-tally-lt1.false, le-ltb _ _ c.if-tally-lt-BEFORE_UNITS.false, lt-ltb _ _ c.if-past-tally.true)

pub returns : goal.returns
unfolding record_place
returns c =
    rw (le-ltb _ _ c.if-tally-lt1.false, le-ltb _ _ c.if-tally-lt-BEFORE_UNITS.false, le-ltb _ _ c.if-past-tally.false)
