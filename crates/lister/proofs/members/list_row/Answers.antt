-- By who stands in the row.
use Prim.Native.Nat.{◌+◌, ◌≤◌}
use native.Mathlib.Omega.{arith}
use lib.ListN.{length}
use Rattle.rules.specs.Listing.{member_line}
use Rattle.interval.specs.Lent.{Lent, lent_member}
use Rattle.answer.specs.Promises.{Columns, columns}
use Rattle.listing.specs.Lines.{unit_of}
use Rattle.lister.specs.Move.{amounts_at}
use Rattle.lister.specs.Said.{Said}
use Rattle.lister.proofs.MoveLaws.{among_means, columns_there}
use Rattle.lister.proofs.StepsLaws.{said_within}
use Rattle.lister.proofs.MembersLaws.{row_full, row_said, row_other, row_refused}
use Rattle.lister.proofs.members.list_row.Goals as goal
use Rattle.lister.proofs.members.list_row.Goals.{After-say_unit-said, Start}

abbrev cols : Start → Columns
cols s = let a = s.args in columns a.performances.now a.factors.now a.payments.now a.used.now a.unused.now

abbrev lists : Start → Lent → Lent
lists s rest = let a = s.args in lent_member rest a.figures.now a.numbers.now a.homes.now

abbrev start : After-say_unit-said → Start
start y = (goal.at.After-say_unit-said y).Start

-- the line of the member's numbers
shares_said :
    (y : After-say_unit-said) → let s = start y in Said (member_line (unit_of y.in-Unit.number y.in-Unit.standing (amounts_at (cols s) s.args.place))) s.args.done s.args.text.now
    y.say_unit-said.result y.say_unit-said.new.text
shares_said y = rw y.amounts-shares.ensures at y.say_unit-said.ensures

pub amounts-shares-requires : goal.amounts-shares-requires
amounts-shares-requires c =
    let here = among_means c.args.tally c.args.requirement c.args.row c.args.place c.requires.0 in
    columns_there c.args.tally.units c.args.place (cols (goal.at.amounts-shares-requires c).Start) c.requires.4 (omega (arith, here.few, here.row_there))

pub returns-then-said-eq0 : goal.returns-then-said-eq0
returns-then-said-eq0 c =
    let a = c.args in
    λ bytes rest.
    row_full a.tally bytes (lists (goal.at.returns-then-said-eq0 c).Start rest) a.requirement a.given (cols (goal.at.returns-then-said-eq0 c).Start) a.row a.place a.done a.text.now c.requires.0 c.requires.1 c.requires.4 c.requires.3 (c.member-who.ensures rest) c.in-Unit.number c.in-Unit.standing c.in-Unit.is
    (shares_said (goal.at.returns-then-said-eq0 c).After-say_unit-said) c.if-said-eq0.true c.halted.ensures

pub overflow_add-place : goal.overflow_add-place
overflow_add-place c =
    let s = start (goal.at.overflow_add-place c).After-say_unit-said in
    let here = among_means s.args.tally s.args.requirement s.args.row s.args.place s.requires.0 in
    omega (arith, here.few, s.requires.1, s.requires.2)

pub overflow_add-done : goal.overflow_add-done
overflow_add-done c =
    let within : (start (goal.at.overflow_add-done c).After-say_unit-said).args.done + c.say_unit-said.result ≤ length (start (goal.at.overflow_add-done c).After-say_unit-said).args.text.now = said_within (shares_said (goal.at.overflow_add-done c).After-say_unit-said) (start (goal.at.overflow_add-done c).After-say_unit-said).requires.3 in
    omega (arith, within, (start (goal.at.overflow_add-done c).After-say_unit-said).well_formed)

pub returns-else-said-eq0 : goal.returns-else-said-eq0
returns-else-said-eq0 c =
    let a = c.args in
    λ bytes rest.
    row_said a.tally bytes (lists (goal.at.returns-else-said-eq0 c).Start rest) a.requirement a.given (cols (goal.at.returns-else-said-eq0 c).Start) a.row a.place a.done a.text.now c.requires.0 c.requires.1 c.requires.4 c.requires.3 (c.member-who.ensures rest) c.in-Unit.number c.in-Unit.standing c.in-Unit.is
    (shares_said (goal.at.returns-else-said-eq0 c).After-say_unit-said) c.if-said-eq0.false c.halted-in-Unit.ensures

pub returns-in-Other : goal.returns-in-Other
returns-in-Other c =
    let a = c.args in
    λ bytes rest.
    row_other a.tally bytes (lists (goal.at.returns-in-Other c).Start rest) a.requirement a.given (cols (goal.at.returns-in-Other c).Start) a.row a.place a.done a.text.now c.requires.0 c.requires.1 c.requires.4 c.requires.3 (c.member-who.ensures rest) c.in-Other.is c.halted-in-Other.ensures

pub returns-in-Refused : goal.returns-in-Refused
returns-in-Refused c =
    let a = c.args in
    λ bytes rest.
    row_refused a.tally bytes (lists (goal.at.returns-in-Refused c).Start rest) a.requirement a.given (cols (goal.at.returns-in-Refused c).Start) a.row a.place a.done a.text.now c.requires.0 c.requires.1 c.requires.4 c.requires.3 (c.member-who.ensures rest) c.in-Refused.refusal c.in-Refused.is
    c.halted-in-Refused.ensures
