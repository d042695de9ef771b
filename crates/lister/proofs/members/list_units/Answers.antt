-- The rows left fall; what the rows before have said stands in the text.
use mathlib.Core.Path.{◌≡◌, refl, subst}
use mathlib.Core.List.{List, []}
use Prim.Native.Nat.{ℕ, ◌+◌}
use native.Mathlib.Omega.{arith}
use Rattle.interval.specs.Lent.{Lent, lent_member}
use Rattle.answer.specs.Asked.{no_lists}
use Rattle.answer.specs.Promises.{columns}
use Rattle.lister.specs.declared.Cursor.TheVariants as at
use Rattle.lister.specs.declared.Halt.{Halt}
use Rattle.lister.specs.declared.Halt.TheVariants as halt
use Rattle.lister.specs.Steps.{WhereOn, Runs, walked_step}
use Rattle.lister.proofs.MoveLaws.{among_means, among_is}
use Rattle.lister.proofs.StepsLaws.{run_then, run_halts, run_size}
use Rattle.lister.proofs.MembersLaws.{other_halt, not_on, run_on, rows_through}
use Rattle.lister.proofs.members.list_units.Goals as goal
use Rattle.lister.proofs.members.list_units.Goals.{After-list_row-step, At-loop-row, Start}

abbrev start : At-loop-row → Start
start l = (goal.at.At-loop-row l).Start

abbrev turn : After-list_row-step → At-loop-row
turn r = (goal.at.After-list_row-step r).At-loop-row

-- this row behind those before it
listed :
    (r : After-list_row-step) (bytes : List ℕ) (rest : Lent) → let l = turn r in let a = (start l).args in
    Runs a.tally bytes (lent_member rest a.figures.now a.numbers.now a.homes.now) (at.Members a.requirement a.given a.first a.members)
    (columns a.performances.now a.factors.now a.payments.now a.used.now a.unused.now) a.start a.text.now
    (walked_step a.tally bytes (lent_member rest a.figures.now a.numbers.now a.homes.now) a.requirement a.given r.list_row-step.result)
    (columns a.performances.now a.factors.now a.payments.now a.used.now a.unused.now)
    r.list_row-step.new.text
listed r bytes rest = run_then ((turn r).loop-row.invariant.runs bytes rest) (r.list_row-step.ensures bytes rest).runs

pub loop-row-init : goal.loop-row-init
loop-row-init c =
    let a = c.args in
    record {
      here = among_means a.tally a.requirement a.first a.members c.requires.0;
      runs = λ bytes rest. run_halts halt.On c.requires.2 tt;
      long = refl;
      fits = c.requires.2;
    }

pub list_row-step-requires : goal.list_row-step-requires
list_row-step-requires c =
    let s = start (goal.at.list_row-step-requires c).At-loop-row in
    let a = s.args in
    (among_is a.tally a.requirement c.loop-row.row c.loop-row.place c.loop-row.invariant.here, c.loop-row-test.true, s.requires.1, c.loop-row.invariant.fits, s.requires.3)

pub returns-in_default : goal.returns-in_default
returns-in_default c =
    λ bytes rest.
    let w = c.list_row-step.ensures bytes rest in
    record { runs = listed (goal.at.returns-in_default c).After-list_row-step bytes rest; behind = not_on c.list_row-step.result.halt _ (other_halt _ c.in_default.not-On); few = w.few; inside = w.inside }

pub loop-row-smaller : goal.loop-row-smaller
loop-row-smaller c =
    let w = c.list_row-step.ensures [] no_lists in
    let next = subst (λ (h : Halt). WhereOn h (c.list_row-step.result.row ≡ (turn (goal.at.loop-row-smaller c).After-list_row-step).loop-row.row + 1)) c.in-On.is w.next in
    omega (arith, next, c.loop-row-test.true)

pub loop-row-preserved : goal.loop-row-preserved
loop-row-preserved c =
    let w = c.list_row-step.ensures [] no_lists in
    let one = listed (goal.at.loop-row-preserved c).After-list_row-step [] no_lists in
    record {
      here = record { requirement = (turn (goal.at.loop-row-preserved c).After-list_row-step).loop-row.invariant.here.requirement; row_there = w.inside; few = w.few };
      runs = λ bytes rest. run_on (listed (goal.at.loop-row-preserved c).After-list_row-step bytes rest);
      long = run_size one;
      fits = omega (arith, one.fits, run_size one);
    }

pub returns : goal.returns
returns c =
    λ bytes rest. rows_through c.loop-row.invariant.here c.loop-row-test.false (c.loop-row.invariant.runs bytes rest) c.halted.ensures
