-- The residual's line, where it has room.
use native.Mathlib.Omega.{arith}
use Rattle.rules.specs.Listing.{member_line}
use Rattle.answer.specs.Promises.{Columns, columns}
use Rattle.listing.specs.Lines.{residual_of}
use Rattle.lister.specs.Move.{amounts_at}
use Rattle.lister.specs.Said.{Said}
use Rattle.lister.proofs.MoveLaws.{columns_there}
use Rattle.lister.proofs.StepsLaws.{said_within}
use Rattle.lister.proofs.TurnLaws.{residual_full, residual_said}
use Rattle.lister.proofs.turn.from_residual.Goals as goal
use Rattle.lister.proofs.turn.from_residual.Goals.{After-say_residual-said, Start}

abbrev cols : Start → Columns
cols s = let a = s.args in columns a.performances.now a.factors.now a.payments.now a.used.now a.unused.now

abbrev start : After-say_residual-said → Start
start w = (goal.at.After-say_residual-said w).Start

residual_line :
    (w : After-say_residual-said) → let s = start w in
    Said (member_line (residual_of s.args.given.residual (amounts_at (cols s) s.args.place))) s.args.done s.args.text.now
    w.say_residual-said.result w.say_residual-said.new.text
residual_line w = rw w.amounts-shares.ensures at w.say_residual-said.ensures

pub amounts-shares-requires : goal.amounts-shares-requires
amounts-shares-requires c =
    columns_there c.args.tally.units c.args.place (cols (goal.at.amounts-shares-requires c).Start) c.requires.5 c.requires.3

pub returns-then-said-eq0 : goal.returns-then-said-eq0
returns-then-said-eq0 c =
    λ bytes l.
    let s = start (goal.at.returns-then-said-eq0 c).After-say_residual-said in
    let a = s.args in
    residual_full a.tally bytes l (cols s) a.requirement a.given a.place a.done a.text.now s.requires.0 s.requires.3 s.requires.5 s.requires.4
    (residual_line (goal.at.returns-then-said-eq0 c).After-say_residual-said) c.if-said-eq0.true

pub overflow_add-result-2 : goal.overflow_add-result-2
overflow_add-result-2 c =
    omega (arith, said_within (residual_line (goal.at.overflow_add-result-2 c).After-say_residual-said) (start (goal.at.overflow_add-result-2 c).After-say_residual-said).requires.4, (start (goal.at.overflow_add-result-2 c).After-say_residual-said).well_formed)

pub returns : goal.returns
returns c =
    λ bytes l.
    let s = start (goal.at.returns c).After-say_residual-said in
    let a = s.args in
    residual_said a.tally bytes l (cols s) a.requirement a.given a.place a.done a.text.now s.requires.0 s.requires.3 s.requires.5 s.requires.4
    (residual_line (goal.at.returns c).After-say_residual-said) c.if-said-eq0.false
