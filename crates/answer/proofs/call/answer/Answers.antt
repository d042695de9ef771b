-- A requirement that is read has passed the tests, and is answered; any other reply is the refusal.
use mathlib.Core.Path.{◌≡◌, sym, ◌∙◌, ap}
use mathlib.Core.Bool.{Bool}
use Rattle.std.proofs.lemmas.Result.{err_from_is_err_and}
use Rattle.rules.specs.Refusals.{Reply, taken, refused}
use Rattle.rules.specs.Book.{Requirement}
use Rattle.interval.specs.Lent.{Lent}
use Rattle.answer.specs.Asked.{lent}
use Rattle.answer.specs.Promises.{Columns, columns, columns_long}
use Rattle.answer.specs.Tested.{tested_requirement}
use Rattle.answer.proofs.TestedLaws.{tests_passed}
use Rattle.answer.specs.Worked.{required}
use Rattle.answer.proofs.CallLaws.{was_read, not_read, past_tests, refuses, gives}
use Rattle.answer.proofs.call.answer.Goals as goal
use Rattle.answer.proofs.call.answer.Goals.{After-tested_requirement, In_err-fields, In_ok-fields, Start}

abbrev start : After-tested_requirement → Start
start c = (goal.at.After-tested_requirement c).Start

abbrev lists : Start → Lent
lists s = let a = s.args in lent a.measures.now a.sums.now a.figures.now a.homes.now a.rows.now

abbrev old : Start → Columns
old s = let a = s.args in columns a.performances.now a.factors.now a.payments.now a.used.now a.unused.now

-- the record past the tests, by whether the columns are long enough
abbrev asked : Start → Bool → Reply Requirement
asked s long = tested_requirement s.args.tally s.args.part.now (lists s) long

asked_is :
    (c : After-tested_requirement) → asked (start c) (columns_long (start c).args.tally.units (old (start c))) ≡ asked (start c)
    c.columns_long-long.result
asked_is c = ap (λ (long : Bool). asked (start c) long) (sym c.columns_long-long.ensures)

read :
    (c : In_ok-fields) → let s = start (goal.at.In_ok-fields c).After-tested_requirement in
    asked s (columns_long s.args.tally.units (old s)) ≡ taken (required c.in_ok-fields.fields)
read c =
    asked_is (goal.at.In_ok-fields c).After-tested_requirement ∙ was_read (asked (start (goal.at.In_ok-fields c).After-tested_requirement) c.columns_long-long.result) _ (sym c.in_ok-fields.was ∙ c.tested_requirement.ensures)

not_taken :
    (c : In_err-fields) → let s = start (goal.at.In_err-fields c).After-tested_requirement in
    asked s (columns_long s.args.tally.units (old s)) ≡ refused c.in_err-fields.field-0.0
not_taken c =
    asked_is (goal.at.In_err-fields c).After-tested_requirement ∙ not_read (asked (start (goal.at.In_err-fields c).After-tested_requirement) c.columns_long-long.result) _ (sym c.in_err-fields.was ∙ c.tested_requirement.ensures)

pub work_out-requires : goal.work_out-requires
work_out-requires c =
    let s = start (goal.at.work_out-requires c).After-tested_requirement in
    let passed = tests_passed s.args.tally s.args.part.now (lists s) (columns_long s.args.tally.units (old s)) (read (goal.at.work_out-requires c).In_ok-fields) in
    past_tests s.args.part.now passed.0 passed.1

pub returns : goal.returns
returns c =
    let s = start (goal.at.returns c).After-tested_requirement in
    λ rest. gives s.args.tally s.args.part.now (lists s) (old s) rest c.in_ok-fields.fields (read (goal.at.returns c).In_ok-fields) (c.work_out.ensures rest)

pub returns-in_err-fields : goal.returns-in_err-fields
returns-in_err-fields c =
    let s = start (goal.at.returns-in_err-fields c).After-tested_requirement in
    let p = err_from_is_err_and c.from_residual.result c.from_residual.ensures.1 in
    rw (p.1, p.2) (λ rest. refuses s.args.tally s.args.part.now (lists s) (old s) rest c.in_err-fields.field-0.0 (not_taken (goal.at.returns-in_err-fields c).In_err-fields))
