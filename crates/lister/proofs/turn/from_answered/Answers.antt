-- The requirement's line, where it has room, then the members'.
use native.Mathlib.Omega.{arith}
use Rattle.rules.specs.declared.Refusal.TheVariants.{WrongState}
use Rattle.interval.specs.Lent.{Lent, lent_member}
use Rattle.answer.specs.Promises.{Columns, columns}
use Rattle.lister.proofs.MoveLaws.{move_past}
use Rattle.lister.proofs.StepsLaws.{said_within, said_fits}
use Rattle.lister.proofs.TurnLaws.{turn_refused, answered_full, answered_then}
use Rattle.lister.proofs.turn.from_answered.Goals as goal
use Rattle.lister.proofs.turn.from_answered.Goals.{After-say_requirement-said, Start}

abbrev cols : Start → Columns
cols s = let a = s.args in columns a.performances.now a.factors.now a.payments.now a.used.now a.unused.now

abbrev lists : Start → Lent → Lent
lists s rest = let a = s.args in lent_member rest a.figures.now a.numbers.now a.homes.now

abbrev start : After-say_requirement-said → Start
start w = (goal.at.After-say_requirement-said w).Start

pub returns-then-tally-requirement : goal.returns-then-tally-requirement
returns-then-tally-requirement c =
    let a = c.args in
    λ bytes rest. turn_refused WrongState c.requires.2 (move_past a.tally bytes (lists (goal.at.returns-then-tally-requirement c).Start rest) (cols (goal.at.returns-then-tally-requirement c).Start) a.requirement a.given c.if-tally-requirement.true)

pub returns-then-said-eq0 : goal.returns-then-said-eq0
returns-then-said-eq0 c =
    let s = start (goal.at.returns-then-said-eq0 c).After-say_requirement-said in
    let a = s.args in
    λ bytes rest. answered_full a.tally bytes (lists s rest) (cols s) a.requirement a.given a.done a.text.now c.if-tally-requirement.false
    s.requires.2 c.say_requirement-said.ensures c.if-said-eq0.true

pub overflow_add-done : goal.overflow_add-done
overflow_add-done c =
    omega (arith, said_within c.say_requirement-said.ensures (start (goal.at.overflow_add-done c).After-say_requirement-said).requires.2, (start (goal.at.overflow_add-done c).After-say_requirement-said).well_formed)

pub from_members-requires : goal.from_members-requires
from_members-requires c =
    let s = start (goal.at.from_members-requires c).After-say_requirement-said in
    (s.requires.0, s.requires.1, said_fits c.say_requirement-said.ensures s.requires.2)

pub returns : goal.returns
returns c =
    let s = start (goal.at.returns c).After-say_requirement-said in
    let a = s.args in
    λ bytes rest. answered_then a.tally bytes (lists s rest) (cols s) a.requirement a.given a.done a.text.now c.if-tally-requirement.false
    s.requires.2 c.say_requirement-said.ensures c.if-said-eq0.false (c.from_members.ensures bytes rest)
