-- Behind the tests, the members.
use mathlib.Core.Path.{sym, ◌∙◌}
use Rattle.rules.specs.declared.Refusal.TheVariants.{WrongState, TooShort}
use Rattle.interval.specs.Lent.{Lent, lent_member}
use Rattle.answer.specs.Promises.{Columns, columns}
use Rattle.lister.proofs.MoveLaws.{move_nowhere, move_short}
use Rattle.lister.proofs.TurnLaws.{turn_refused}
use Rattle.lister.proofs.turn.from_members.Goals as goal
use Rattle.lister.proofs.turn.from_members.Goals.{Start}

abbrev cols : Start → Columns
cols s = let a = s.args in columns a.performances.now a.factors.now a.payments.now a.used.now a.unused.now

abbrev lists : Start → Lent → Lent
lists s rest = let a = s.args in lent_member rest a.figures.now a.numbers.now a.homes.now

pub returns-then-not-among : goal.returns-then-not-among
returns-then-not-among c =
    let a = c.args in
    λ bytes rest. turn_refused WrongState c.requires.2 (move_nowhere a.tally bytes (lists (goal.at.returns-then-not-among c).Start rest) (cols (goal.at.returns-then-not-among c).Start) a.requirement a.given a.row a.place
    (sym c.among.ensures ∙ c.if-not-among.true))

pub returns-then-not-columns_long : goal.returns-then-not-columns_long
returns-then-not-columns_long c =
    let a = c.args in
    λ bytes rest. turn_refused TooShort c.requires.2 (move_short a.tally bytes (lists (goal.at.returns-then-not-columns_long c).Start rest) (cols (goal.at.returns-then-not-columns_long c).Start) a.requirement a.given a.row a.place
    (sym c.among.ensures ∙ c.if-not-among.false) (sym c.columns_long.ensures ∙ c.if-not-columns_long.true))

pub from_row-requires : goal.from_row-requires
from_row-requires c =
    (sym c.among.ensures ∙ c.if-not-among.false, c.requires.0, c.requires.1, c.requires.2, sym c.columns_long.ensures ∙ c.if-not-columns_long.false)
