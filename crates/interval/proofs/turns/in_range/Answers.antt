-- Each branch settles one test of the range, in its order.
use mathlib.Core.Path.{◌≡◌}
use mathlib.Core.Bool.{true}
use lib.Dec.{leb}
use borrow.Author.Tests.{le-leb, lt-leb}
use Rattle.interval.specs.Tally.{in_range, book_end}
use Rattle.interval.proofs.turns.in_range.Goals as goal
use Rattle.interval.proofs.turns.in_range.Goals.{Else-tally, Else-tally-gt-MOST_REQUIREMENTS, Else-tally-gt-MOST_UNITS, Else-tally-lt1}

few_units : (c : Else-tally-gt-MOST_UNITS) → leb c.args.tally.units 512 ≡ true
few_units c = le-leb _ _ c.if-tally-gt-MOST_UNITS.false

some_requirements : (c : Else-tally-lt1) → leb 1 c.args.tally.requirements ≡ true
some_requirements c = le-leb _ _ c.if-tally-lt1.false

few_requirements : (c : Else-tally-gt-MOST_REQUIREMENTS) → leb c.args.tally.requirements 32 ≡ true
few_requirements c = le-leb _ _ c.if-tally-gt-MOST_REQUIREMENTS.false

few_records : (c : Else-tally) → leb c.args.tally.records
    (book_end c.args.tally) ≡ true
few_records c = le-leb _ _ c.if-tally.false

pub returns-then-tally-gt-MOST_UNITS : goal.returns-then-tally-gt-MOST_UNITS
unfolding in_range
returns-then-tally-gt-MOST_UNITS c = simp (lt-leb _ _ c.if-tally-gt-MOST_UNITS.true)

pub returns-then-tally-lt1 : goal.returns-then-tally-lt1
unfolding in_range
returns-then-tally-lt1 c = simp (few_units (goal.at.returns-then-tally-lt1 c).Else-tally-gt-MOST_UNITS, lt-leb _ _ c.if-tally-lt1.true)

pub returns-then-tally-gt-MOST_REQUIREMENTS : goal.returns-then-tally-gt-MOST_REQUIREMENTS
unfolding in_range
returns-then-tally-gt-MOST_REQUIREMENTS c = simp (few_units (goal.at.returns-then-tally-gt-MOST_REQUIREMENTS c).Else-tally-gt-MOST_UNITS, some_requirements (goal.at.returns-then-tally-gt-MOST_REQUIREMENTS c).Else-tally-lt1, lt-leb _ _ c.if-tally-gt-MOST_REQUIREMENTS.true)

pub returns-then-tally : goal.returns-then-tally
unfolding in_range
returns-then-tally c = simp (
  few_units (goal.at.returns-then-tally c).Else-tally-gt-MOST_UNITS,
  some_requirements (goal.at.returns-then-tally c).Else-tally-lt1,
  few_requirements (goal.at.returns-then-tally c).Else-tally-gt-MOST_REQUIREMENTS,
  lt-leb _ _ c.if-tally.true,
)

pub returns-then-tally-gt65536 : goal.returns-then-tally-gt65536
unfolding in_range
returns-then-tally-gt65536 c = simp
    (few_units (goal.at.returns-then-tally-gt65536 c).Else-tally-gt-MOST_UNITS, some_requirements (goal.at.returns-then-tally-gt65536 c).Else-tally-lt1, few_requirements (goal.at.returns-then-tally-gt65536 c).Else-tally-gt-MOST_REQUIREMENTS, few_records (goal.at.returns-then-tally-gt65536 c).Else-tally, lt-leb _ _ c.if-tally-gt65536.true)

pub returns : goal.returns
unfolding in_range
returns c = simp
    (few_units (goal.at.returns c).Else-tally-gt-MOST_UNITS, some_requirements (goal.at.returns c).Else-tally-lt1, few_requirements (goal.at.returns c).Else-tally-gt-MOST_REQUIREMENTS, few_records (goal.at.returns c).Else-tally, le-leb _ _ c.if-tally-gt65536.false)
    c.settings_in_range.ensures
