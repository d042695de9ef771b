-- Each branch is the turn of its call; the lists that a frequency record's call is not lent are as they came.
use mathlib.Core.Path.{refl}
use mathlib.Core.List.{[]}
use native.Mathlib.Omega.{arith}
use Rattle.interval.specs.Lent.{lent_unit}
use Rattle.reader.specs.Turns.{TurnPromise}
use Rattle.reader.proofs.turn.take.Goals as goal

pub returns-then-tally-lt1 : goal.returns-then-tally-lt1
returns-then-tally-lt1 c = TurnPromise.as_settings (omega arith) c.settings.ensures refl

pub returns-then-tally-lt-BEFORE_UNITS : goal.returns-then-tally-lt-BEFORE_UNITS
returns-then-tally-lt-BEFORE_UNITS c =
    let a = c.args in
    TurnPromise.as_frequency (omega arith) (omega arith) (c.frequency.ensures (lent_unit [] [] [] a.numbers.now a.homes.now a.rows.now
    a.groups.now a.deviations.now))

pub returns-then-tally : goal.returns-then-tally
returns-then-tally c = TurnPromise.as_unit (omega arith) (omega arith) c.unit.ensures

pub returns : goal.returns
returns c = TurnPromise.as_requirement (omega arith) c.requirement.ensures refl
