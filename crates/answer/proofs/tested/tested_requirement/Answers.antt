-- The tests in their order, each settled by the call that made it; past them the record's reader answers.
use mathlib.Core.Path.{◌≡◌, sym, ◌∙◌}
use mathlib.Core.Bool.{Bool, true, ◌&&◌}
use Rattle.interval.specs.Tally.{in_range, answer_turn}
use Rattle.interval.specs.Lent.{Lent, regions_long, rows_long}
use Rattle.kept.specs.Range.{kept_fine}
use Rattle.answer.specs.Asked.{lent}
use Rattle.answer.specs.Tested.{tested_requirement}
use Rattle.answer.proofs.TestedLaws.{lent_long}
use Rattle.answer.proofs.tested.tested_requirement.Goals as goal
use Rattle.answer.proofs.tested.tested_requirement.Goals.{After-lent_in_range, Else-not-answer_turn, Else-not-columns, Else-not-lists_long, Start}

abbrev start : Else-not-answer_turn → Start
start c = (goal.at.Else-not-answer_turn c).Start

abbrev all : Else-not-answer_turn → Lent
all c = let a = (start c).args in lent a.measures.now a.sums.now a.figures.now a.homes.now a.rows.now

in_turn : (c : Else-not-answer_turn) → (in_range (start c).args.tally && answer_turn (start c).args.tally) ≡ true
in_turn c = sym c.answer_turn.ensures ∙ c.if-not-answer_turn.false

long :
    (c : Else-not-lists_long) →
    (regions_long (all (goal.at.Else-not-lists_long c).Else-not-answer_turn) && rows_long (start (goal.at.Else-not-lists_long c).Else-not-answer_turn).args.tally.units (all (goal.at.Else-not-lists_long c).Else-not-answer_turn)) ≡ true
long c = sym c.lists_long.ensures ∙ c.if-not-lists_long.false

abbrev past : Else-not-columns → Else-not-answer_turn
past c = (goal.at.Else-not-columns c).Else-not-answer_turn

long_all : (c : Else-not-columns) → (start (past c)).args.columns ≡ true
long_all c = c.if-not-columns.false

numbers :
    (c : After-lent_in_range) (t : Bool) → c.lent_in_range.result ≡ t →
    kept_fine (start (past (goal.at.After-lent_in_range c).Else-not-columns)).args.tally (all (past (goal.at.After-lent_in_range c).Else-not-columns)) ≡ t
numbers c t e = sym c.lent_in_range.ensures ∙ e

pub returns-then-not-answer_turn : goal.returns-then-not-answer_turn
unfolding tested_requirement
returns-then-not-answer_turn c = rw (sym c.answer_turn.ensures ∙ c.if-not-answer_turn.true)

pub returns-then-not-lists_long : goal.returns-then-not-lists_long
unfolding tested_requirement
returns-then-not-lists_long c = rw (in_turn (goal.at.returns-then-not-lists_long c).Else-not-answer_turn, sym c.lists_long.ensures ∙ c.if-not-lists_long.true)

pub returns-then-not-columns : goal.returns-then-not-columns
unfolding tested_requirement
returns-then-not-columns c =
    rw (in_turn (goal.at.returns-then-not-columns c).Else-not-answer_turn, long (goal.at.returns-then-not-columns c).Else-not-lists_long, c.if-not-columns.true)

pub lent_in_range-requires : goal.lent_in_range-requires
lent_in_range-requires c =
    lent_long (start (goal.at.lent_in_range-requires c).Else-not-answer_turn).args.tally (all (goal.at.lent_in_range-requires c).Else-not-answer_turn) (in_turn (goal.at.lent_in_range-requires c).Else-not-answer_turn) (long (goal.at.lent_in_range-requires c).Else-not-lists_long)

pub returns-then-not-lent_in_range : goal.returns-then-not-lent_in_range
unfolding tested_requirement
returns-then-not-lent_in_range c =
    rw (in_turn (past (goal.at.returns-then-not-lent_in_range c).Else-not-columns), long (goal.at.returns-then-not-lent_in_range c).Else-not-lists_long, long_all (goal.at.returns-then-not-lent_in_range c).Else-not-columns, numbers (goal.at.returns-then-not-lent_in_range c).After-lent_in_range _ (c.if-not-lent_in_range.true))

pub returns : goal.returns
unfolding tested_requirement
returns c =
    rw (in_turn (past (goal.at.returns c).Else-not-columns), long (goal.at.returns c).Else-not-lists_long, long_all (goal.at.returns c).Else-not-columns, numbers (goal.at.returns c).After-lent_in_range _ (c.if-not-lent_in_range.false))
    c.read_requirement.ensures.reply
