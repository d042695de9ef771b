-- Each branch settles one test of the settings' rule, in its order; before the settings are taken there is none.
use mathlib.Core.Path.{◌≡◌}
use mathlib.Core.Bool.{true, false}
use lib.Dec.{eqb, leb}
use borrow.Author.Tests.{eq-eqb, ne_eqb, le-leb, lt-leb}
use Rattle.interval.proofs.turns.settings_in_range.Goals as goal
use Rattle.interval.proofs.turns.settings_in_range.Goals.{Else-tally-eq0, Else-tally-gt10000, Else-tally-lt1}

some : (c : Else-tally-eq0) → eqb c.args.tally.records 0 ≡ false
some c = ne_eqb _ _ c.if-tally-eq0.false

least : (c : Else-tally-lt1) → leb 1 c.args.tally.smoothing ≡ true
least c = le-leb _ _ c.if-tally-lt1.false

most : (c : Else-tally-gt10000) → leb c.args.tally.smoothing 10_000 ≡ true
most c = le-leb _ _ c.if-tally-gt10000.false

pub returns-then-tally-eq0 : goal.returns-then-tally-eq0
returns-then-tally-eq0 c = simp (eq-eqb _ _ c.if-tally-eq0.true)

pub returns-then-tally-lt1 : goal.returns-then-tally-lt1
returns-then-tally-lt1 c = simp (some (goal.at.returns-then-tally-lt1 c).Else-tally-eq0, lt-leb _ _ c.if-tally-lt1.true)

pub returns-then-tally-gt10000 : goal.returns-then-tally-gt10000
returns-then-tally-gt10000 c = simp (some (goal.at.returns-then-tally-gt10000 c).Else-tally-eq0, least (goal.at.returns-then-tally-gt10000 c).Else-tally-lt1, lt-leb _ _ c.if-tally-gt10000.true)

pub returns-then-tally-gt75 : goal.returns-then-tally-gt75
returns-then-tally-gt75 c = simp (
  some (goal.at.returns-then-tally-gt75 c).Else-tally-eq0,
  least (goal.at.returns-then-tally-gt75 c).Else-tally-lt1,
  most (goal.at.returns-then-tally-gt75 c).Else-tally-gt10000,
  lt-leb _ _ c.if-tally-gt75.true,
)

pub returns : goal.returns
returns c = rw (
  some (goal.at.returns c).Else-tally-eq0,
  least (goal.at.returns c).Else-tally-lt1,
  most (goal.at.returns c).Else-tally-gt10000,
  le-leb _ _ c.if-tally-gt75.false,
)
