-- The units from the row on, then the residual.
use mathlib.Core.List.{[]}
use native.Mathlib.Omega.{arith}
use Rattle.interval.specs.Lent.{Lent, lent_member}
use Rattle.answer.specs.Promises.{Columns, columns}
use Rattle.answer.specs.Asked.{no_lists}
use Rattle.lister.proofs.MoveLaws.{among_means}
use Rattle.lister.proofs.StepsLaws.{run_size}
use Rattle.lister.proofs.MembersLaws.{other_halt}
use Rattle.lister.proofs.TurnLaws.{units_halt, units_then}
use Rattle.lister.proofs.turn.from_row.Goals as goal
use Rattle.lister.proofs.turn.from_row.Goals.{After-list_units-walked, Start}

abbrev cols : Start → Columns
cols s = let a = s.args in columns a.performances.now a.factors.now a.payments.now a.used.now a.unused.now

abbrev lists : Start → Lent → Lent
lists s rest = let a = s.args in lent_member rest a.figures.now a.numbers.now a.homes.now

abbrev start : After-list_units-walked → Start
start u = (goal.at.After-list_units-walked u).Start

pub returns-in_default : goal.returns-in_default
returns-in_default c =
    let s = start (goal.at.returns-in_default c).After-list_units-walked in
    let a = s.args in
    λ bytes rest. units_halt a.tally bytes (lists s rest) (cols s) a.requirement a.given a.row a.place a.done a.text.now
    (c.list_units-walked.ensures bytes rest) (other_halt _ c.in_default.not-On)

pub from_residual-requires : goal.from_residual-requires
from_residual-requires c =
    let s = start (goal.at.from_residual-requires c).After-list_units-walked in
    let a = s.args in
    let w = c.list_units-walked.ensures [] no_lists in (
      (among_means a.tally a.requirement a.row a.place s.requires.0).requirement,
      s.requires.1,
      s.requires.2,
      omega (arith, w.few, w.inside),
      omega (arith, w.runs.fits, run_size w.runs),
      s.requires.4,
    )

pub returns : goal.returns
returns c =
    let s = start (goal.at.returns c).After-list_units-walked in
    let a = s.args in
    λ bytes rest. units_then a.tally bytes (lists s rest) (cols s) a.requirement a.given a.row a.place a.done a.text.now
    (c.list_units-walked.ensures bytes rest) c.in-On.is (c.from_residual.ensures bytes (lists s rest))
