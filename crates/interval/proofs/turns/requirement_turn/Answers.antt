-- The range first, which keeps the sums within their width, then each end of the turn.
use mathlib.Core.Path.{◌≡◌, sym, ◌∙◌}
use mathlib.Core.Bool.{true}
use native.Mathlib.Omega.{arith}
use borrow.Author.Tests.{le-leb, lt-leb}
use Rattle.interval.specs.Tally.{in_range}
use Rattle.interval.proofs.TallyLaws.{ranged}
use Rattle.interval.proofs.turns.requirement_turn.Goals as goal
use Rattle.interval.proofs.turns.requirement_turn.Goals.{Else-not-in_range}

in_its_range : (c : Else-not-in_range) → in_range c.args.tally ≡ true
in_its_range c = sym c.in_range.ensures ∙ c.if-not-in_range.false

pub returns-then-not-in_range : goal.returns-then-not-in_range
returns-then-not-in_range c = simp (sym c.in_range.ensures ∙ c.if-not-in_range.true)

pub overflow_add-tally : goal.overflow_add-tally
overflow_add-tally c = let h = ranged _ (in_its_range (goal.at.overflow_add-tally c).Else-not-in_range) in record { fits = omega arith }

pub returns-then-tally : goal.returns-then-tally
returns-then-tally c = simp (in_its_range (goal.at.returns-then-tally c).Else-not-in_range, lt-leb _ _ c.if-tally.true)

pub overflow_add-result-2 : goal.overflow_add-result-2
overflow_add-result-2 c = let h = ranged _ (in_its_range (goal.at.overflow_add-result-2 c).Else-not-in_range) in record { fits = omega arith }

pub returns : goal.returns
returns c = simp (in_its_range (goal.at.returns c).Else-not-in_range, le-leb _ _ c.if-tally.false)
