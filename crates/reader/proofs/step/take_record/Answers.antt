-- What the call says, and whether the book is at its end.
use Rattle.std.specs.Prelude.{Result, ⊤}
use Rattle.rules.specs.declared.Located.{Located}
use mathlib.Core.Path.{sym, ◌∙◌, ap}
use mathlib.Core.Bool.{true, false}
use Rattle.reader.specs.Reading.{after_record}
use Rattle.reader.proofs.ReadingLaws.{after_taken}
use Rattle.reader.proofs.step.take_record.Goals as goal
use Rattle.reader.proofs.step.take_record.Goals.{After-deviations-1, After-take-step}

-- the call, seen from where its lists are back
abbrev taken_in : After-deviations-1 → After-take-step
taken_in c = (goal.at.After-deviations-1 c).After-take-step

pub returns-in-Err : goal.returns-in-Err
returns-in-Err c =
    let s = taken_in (goal.at.returns-in-Err c).After-deviations-1 in
    record {
      step = s.take-step.result;
      turn = s.take-step.ensures;
      reply = ap (λ (k : Result ⊤ Located). after_record k s.take-step.result.tally) (sym c.in-Err.is);
    }

pub returns-then-is_end : goal.returns-then-is_end
returns-then-is_end c =
    let s = taken_in (goal.at.returns-then-is_end c).After-deviations-1 in
    record {
      step = s.take-step.result;
      turn = s.take-step.ensures;
      reply = after_taken s.take-step.result.tally true c.in_default.is (sym c.if-is_end.true ∙ c.is_end.ensures);
    }

pub returns : goal.returns
returns c =
    let s = taken_in (goal.at.returns c).After-deviations-1 in
    record {
      step = s.take-step.result;
      turn = s.take-step.ensures;
      reply = after_taken s.take-step.result.tally false c.in_default.is (sym c.if-is_end.false ∙ c.is_end.ensures);
    }
