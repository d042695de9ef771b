-- Behind the last requirement nothing is left; before it `answer` says what comes.
use mathlib.Core.Path.{subst}
use mathlib.Core.List.{List}
use Prim.Native.Nat.{ℕ, ◌*◌}
use lib.ListN.{drop}
use Rattle.interval.specs.Lent.{Lent}
use Rattle.answer.specs.Promises.{Columns, columns, AnswerPromise}
use Rattle.lister.specs.Steps.{lent_listing}
use Rattle.lister.proofs.TurnLaws.{turn_behind, answer_then, answer_refused, part_from}
use Rattle.lister.proofs.turn.from_requirement.Goals as goal
use Rattle.lister.proofs.turn.from_requirement.Goals.{After-answer-answered, Else-tally-requirement, In-Ok, In-Err, Start}

abbrev cols : Start → Columns
cols s = let a = s.args in columns a.performances.now a.factors.now a.payments.now a.used.now a.unused.now

abbrev lists : Start → Lent → Lent
lists s rest = let a = s.args in lent_listing rest a.measures.now a.sums.now a.figures.now a.numbers.now a.homes.now a.rows.now

abbrev begun : After-answer-answered → Else-tally-requirement
begun w = (goal.at.After-answer-answered w).Else-tally-requirement

abbrev start : After-answer-answered → Start
start w = (goal.at.Else-tally-requirement (begun w)).Start

-- the columns as the answer leaves them
abbrev after : After-answer-answered → Columns
after w =
    columns w.answer-answered.new.performances w.answer-answered.new.factors w.answer-answered.new.payments w.answer-answered.new.used w.answer-answered.new.unused

abbrev asked : In-Ok → After-answer-answered
asked w = (goal.at.In-Ok w).After-answer-answered

abbrev asked2 : In-Err → After-answer-answered
asked2 w = (goal.at.In-Err w).After-answer-answered

-- the answer to the requirement whose record starts there
answers :
    (w : After-answer-answered) (rest : Lent) → let s = start w in let a = s.args in
    AnswerPromise a.tally (drop (24 * a.requirement) a.bytes.now) (lists s rest) (cols s) w.answer-answered.result (after w)
answers w rest =
    let s = start w in
    let a = s.args in
    subst (λ (p : List ℕ). AnswerPromise a.tally p (lists s rest) (cols s) w.answer-answered.result (after w)) (part_from (24 * a.requirement) a.bytes.now)
    (w.answer-answered.ensures (lists s rest))

pub returns-then-tally-requirement : goal.returns-then-tally-requirement
returns-then-tally-requirement c =
    let a = c.args in
    λ rest. turn_behind a.tally a.bytes.now (lists (goal.at.returns-then-tally-requirement c).Start rest) (cols (goal.at.returns-then-tally-requirement c).Start) a.requirement a.done a.text.now c.if-tally-requirement.true c.requires.3
    c.behind.ensures

pub from_answered-requires : goal.from_answered-requires
from_answered-requires c =
    let s = start (asked (goal.at.from_answered-requires c).In-Ok) in
    (s.requires.0, s.requires.1, s.requires.3)

pub returns-in-Ok : goal.returns-in-Ok
returns-in-Ok c =
    let w = asked (goal.at.returns-in-Ok c).In-Ok in
    let s = start w in
    let a = s.args in
    λ rest. answer_then a.tally a.bytes.now (lists s rest) (cols s) a.requirement (begun w).if-tally-requirement.false (answers w rest) c.in-Ok.given
    c.in-Ok.is s.requires.3 (c.from_answered.ensures a.bytes.now (lists s rest))

pub returns-in-Err : goal.returns-in-Err
returns-in-Err c =
    let w = asked2 (goal.at.returns-in-Err c).In-Err in
    let s = start w in
    let a = s.args in
    λ rest. answer_refused a.tally a.bytes.now (lists s rest) (cols s) a.requirement (begun w).if-tally-requirement.false (answers w rest) c.in-Err.refusal
    c.in-Err.is s.requires.3
