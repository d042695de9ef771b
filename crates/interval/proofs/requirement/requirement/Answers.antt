-- Out of turn is told at once. In turn the answer is the reader's: its number makes the tally, its refusal hands the tally back.
use mathlib.Core.Path.{◌≡◌, sym, ◌∙◌, ap}
use mathlib.Core.Bool.{Bool, true, ◌&&◌}
use Prim.Native.Nat.{◌+◌}
use lib.Dec.{eqb}
use Rattle.rules.specs.RequirementRecord.{requirement_record}
use Rattle.book.specs.Requirement.{requirement_answer}
use Rattle.interval.specs.declared.Step.{Step}
use Rattle.interval.specs.Tally.{in_range, requirement_turn, book_end}
use Rattle.interval.proofs.TallyLaws.{RequirementTurn, requirement_comes}
use Rattle.interval.proofs.Calls.{count_taken, required_from, required_is}
use Rattle.interval.specs.Calls.{requirement_reply}
use Rattle.interval.specs.Promises.{RequirementPromise}
use Rattle.interval.proofs.requirement.requirement.Goals as goal
use Rattle.interval.proofs.requirement.requirement.Goals.{After-read_requirement-read, Else-not-requirement_turn, Start}

abbrev start : Else-not-requirement_turn → Start
start c = (goal.at.Else-not-requirement_turn c).Start

in_turn : (c : Else-not-requirement_turn) → (in_range (start c).args.tally && requirement_turn (start c).args.tally) ≡ true
in_turn c = sym c.requirement_turn.ensures ∙ c.if-not-requirement_turn.false

comes : (c : Else-not-requirement_turn) → RequirementTurn (start c).args.tally
comes c = requirement_comes _ (in_turn c)

-- what the reader answered is what the call answers
answers : (c : After-read_requirement-read) (r : Step) → r ≡ required_from (start (goal.at.After-read_requirement-read c).Else-not-requirement_turn).args.tally c.read_requirement-read.result →
    RequirementPromise (start (goal.at.After-read_requirement-read c).Else-not-requirement_turn).args.tally (start (goal.at.After-read_requirement-read c).Else-not-requirement_turn).args.part.now r
unfolding requirement_reply
answers c r e =
    let t = (start (goal.at.After-read_requirement-read c).Else-not-requirement_turn).args.tally in
    let part = (start (goal.at.After-read_requirement-read c).Else-not-requirement_turn).args.part.now in
    let last = eqb (t.records + 1) (book_end t) in
    let read = c.read_requirement-read.ensures.reply ∙ ap (λ (b : Bool). requirement_answer (requirement_record t.least b part))
    c.comes_last-last.ensures in
    record { reply = rw (in_turn (goal.at.After-read_requirement-read c).Else-not-requirement_turn) (e ∙ ap (required_from t) read ∙ required_is t (requirement_record t.least last part)) }

pub returns-then-not-requirement_turn : goal.returns-then-not-requirement_turn
unfolding requirement_reply
returns-then-not-requirement_turn c = record { reply = rw (sym c.requirement_turn.ensures ∙ c.if-not-requirement_turn.true) c.refuse.ensures }

pub comes_last-last-requires : goal.comes_last-last-requires
comes_last-last-requires c = let h = comes (goal.at.comes_last-last-requires c).Else-not-requirement_turn in (h.few, h.units, h.requirements)

pub returns-in-Ok : goal.returns-in-Ok
returns-in-Ok c =
    answers (goal.at.returns-in-Ok c).After-read_requirement-read _ (c.count.ensures ∙ count_taken _ _ (comes (goal.at.returns-in-Ok c).Else-not-requirement_turn).few ∙ ap (required_from (start (goal.at.returns-in-Ok c).Else-not-requirement_turn).args.tally)
    (sym c.in-Ok.is))

pub returns-in-Err : goal.returns-in-Err
returns-in-Err c =
    answers (goal.at.returns-in-Err c).After-read_requirement-read _ (c.refuse-in-Err.ensures ∙ ap (required_from (start (goal.at.returns-in-Err c).Else-not-requirement_turn).args.tally) (sym c.in-Err.is))
