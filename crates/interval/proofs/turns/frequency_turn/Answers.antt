-- The range first, then each end of the turn.
use mathlib.Core.Path.{◌≡◌, sym, ◌∙◌}
use mathlib.Core.Bool.{true}
use borrow.Author.Tests.{le-leb, lt-leb}
use Rattle.interval.specs.Tally.{in_range}
use Rattle.interval.proofs.turns.frequency_turn.Goals as goal
use Rattle.interval.proofs.turns.frequency_turn.Goals.{Else-not-in_range}

in_its_range : (c : Else-not-in_range) → in_range c.args.tally ≡ true
in_its_range c = sym c.in_range.ensures ∙ c.if-not-in_range.false

pub returns-then-not-in_range : goal.returns-then-not-in_range
returns-then-not-in_range c = simp (sym c.in_range.ensures ∙ c.if-not-in_range.true)

pub returns-then-tally-lt1 : goal.returns-then-tally-lt1
returns-then-tally-lt1 c = simp (in_its_range (goal.at.returns-then-tally-lt1 c).Else-not-in_range, lt-leb _ _ c.if-tally-lt1.true)

pub returns : goal.returns
returns c = simp (in_its_range (goal.at.returns c).Else-not-in_range, le-leb _ _ c.if-tally-lt1.false)
