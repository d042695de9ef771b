-- A tally whose units are not all in is at no book's end; past that the range keeps the sum within its width.
use mathlib.Core.Path.{◌≡◌, sym, ◌∙◌}
use mathlib.Core.Bool.{true}
use native.Mathlib.Omega.{arith}
use Rattle.integers.specs.Sums.{both}
use Rattle.interval.specs.Tally.{in_range}
use Rattle.interval.proofs.TallyLaws.{ranged}
use Rattle.lister.proofs.ListLaws.{not_ended}
use Rattle.lister.proofs.list.ended.Goals as goal
use Rattle.lister.proofs.list.ended.Goals.{Else-not-answer_turn}

in_its_range : (c : Else-not-answer_turn) → in_range c.args.tally ≡ true
in_its_range c = (both (in_range c.args.tally) _ (sym c.answer_turn.ensures ∙ c.if-not-answer_turn.false)).0

pub returns-then-not-answer_turn : goal.returns-then-not-answer_turn
returns-then-not-answer_turn c =
    not_ended c.args.tally (sym c.answer_turn.ensures ∙ c.if-not-answer_turn.true)

pub overflow_add-result : goal.overflow_add-result
overflow_add-result c = let h = ranged _ (in_its_range (goal.at.overflow_add-result c).Else-not-answer_turn) in record { fits = omega (arith, h.units) }

pub overflow_add-result-2 : goal.overflow_add-result-2
overflow_add-result-2 c =
    let h = ranged _ (in_its_range (goal.at.overflow_add-result-2 c).Else-not-answer_turn) in record { fits = omega (arith, h.units, h.requirements) }

pub returns : goal.returns
returns c = rw (in_its_range (goal.at.returns c).Else-not-answer_turn)
