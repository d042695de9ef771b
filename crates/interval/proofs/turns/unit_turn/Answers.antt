-- The range first, then each end of the turn; the last test counts the units taken.
use mathlib.Core.Path.{◌≡◌, sym, ◌∙◌}
use mathlib.Core.Bool.{true}
use borrow.Author.Tests.{le-leb, lt-leb}
use Rattle.interval.specs.Tally.{in_range}
use Rattle.interval.proofs.TallyLaws.{below_past}
use Rattle.interval.proofs.turns.unit_turn.Goals as goal
use Rattle.interval.proofs.turns.unit_turn.Goals.{Else-not-in_range}

in_its_range : (c : Else-not-in_range) → in_range c.args.tally ≡ true
in_its_range c = sym c.in_range.ensures ∙ c.if-not-in_range.false

pub returns-then-not-in_range : goal.returns-then-not-in_range
returns-then-not-in_range c = simp (sym c.in_range.ensures ∙ c.if-not-in_range.true)

pub returns-then-tally-lt-BEFORE_UNITS : goal.returns-then-tally-lt-BEFORE_UNITS
returns-then-tally-lt-BEFORE_UNITS c = simp (in_its_range (goal.at.returns-then-tally-lt-BEFORE_UNITS c).Else-not-in_range, lt-leb _ _ c.if-tally-lt-BEFORE_UNITS.true)

pub returns : goal.returns
returns c = simp (in_its_range (goal.at.returns c).Else-not-in_range, le-leb _ _ c.if-tally-lt-BEFORE_UNITS.false)
    (below_past 6 _ _ c.if-tally-lt-BEFORE_UNITS.false)
