-- The range first, which keeps the sum within its width, then the turn.
use mathlib.Core.Path.{◌≡◌, sym, ◌∙◌}
use mathlib.Core.Bool.{true}
use native.Mathlib.Omega.{arith}
use Rattle.interval.specs.Tally.{in_range}
use Rattle.interval.proofs.TallyLaws.{ranged}
use Rattle.interval.proofs.turns.answer_turn.Goals as goal
use Rattle.interval.proofs.turns.answer_turn.Goals.{Else-not-in_range}

in_its_range : (c : Else-not-in_range) → in_range c.args.tally ≡ true
in_its_range c = sym c.in_range.ensures ∙ c.if-not-in_range.false

pub returns-then-not-in_range : goal.returns-then-not-in_range
returns-then-not-in_range c = rw (sym c.in_range.ensures ∙ c.if-not-in_range.true)

pub overflow_add-result : goal.overflow_add-result
overflow_add-result c = let h = ranged _ (in_its_range (goal.at.overflow_add-result c).Else-not-in_range) in record { fits = omega arith }

pub returns : goal.returns
returns c = rw (in_its_range (goal.at.returns c).Else-not-in_range)
