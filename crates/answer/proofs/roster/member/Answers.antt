-- The tests in their order; past them the row by its number and home.
use mathlib.Core.Path.{◌≡◌, sym, ◌∙◌, ap}
use mathlib.Core.Bool.{true, ◌&&◌}
use Prim.Native.Nat.{◌≤◌, ◌<◌}
use lib.Dec.{ltb}
use lib.ListN.{length}
use native.Mathlib.Omega.{arith}
use borrow.Author.Tests.{le-leb, ltb-true}
use Rattle.integers.specs.Sums.{both}
use Rattle.rules.specs.RequirementRecord.{set_fine}
use Rattle.interval.specs.Tally.{in_range, answer_turn}
use Rattle.interval.specs.Lent.{Lent, lent_member, of_interval}
use Rattle.answer.specs.Asked.{no_lists}
use Rattle.answer.specs.Roster.{member_long, member_reply, row_answer}
use Rattle.answer.proofs.RosterLaws.{member_long_means, row_told_is, set_five}
use Rattle.answer.proofs.roster.member.Goals as goal
use Rattle.answer.proofs.roster.member.Goals.{After-of_interval, Else-not-answer_turn, Else-not-asked_in_range, Else-not-of_interval, Else-not-roster_long, Start}

abbrev S : Else-not-answer_turn → Start
S c = (goal.at.Else-not-answer_turn c).Start

abbrev S2 : Else-not-asked_in_range → Start
S2 c = S (goal.at.Else-not-asked_in_range c).Else-not-answer_turn

abbrev S3 : Else-not-roster_long → Start
S3 c = S2 (goal.at.Else-not-roster_long c).Else-not-asked_in_range

abbrev S4 : Else-not-of_interval → Start
S4 c = S3 (goal.at.Else-not-of_interval c).Else-not-roster_long

abbrev lists : Start → Lent
lists s = lent_member no_lists s.args.figures.now s.args.numbers.now s.args.homes.now

in_turn : (c : Else-not-answer_turn) → (in_range (S c).args.tally && answer_turn (S c).args.tally) ≡ true
in_turn c = sym c.answer_turn.ensures ∙ c.if-not-answer_turn.false

asked_well : (c : Else-not-asked_in_range) → (set_fine (S2 c).args.set && ltb (S2 c).args.row (S2 c).args.tally.units) ≡ true
asked_well c = sym c.asked_in_range.ensures ∙ c.if-not-asked_in_range.false

there : (c : Else-not-asked_in_range) → (S2 c).args.row < (S2 c).args.tally.units
there c = ltb-true _ _ (both (set_fine (S2 c).args.set) _ (asked_well c)).1

long : (c : Else-not-roster_long) → member_long (S3 c).args.tally.units (lists (S3 c)) ≡ true
long c = sym c.roster_long.ensures ∙ c.if-not-roster_long.false

each_long :
    (c : Else-not-roster_long) → let a = (S3 c).args in
    (50 ≤ length a.figures.now) × (a.tally.units ≤ length a.numbers.now) × (a.tally.units ≤ length a.homes.now)
each_long c = member_long_means (S3 c).args.tally.units (lists (S3 c)) (long c)

numbered : (c : After-of_interval) → of_interval (S3 (goal.at.After-of_interval c).Else-not-roster_long).args.tally.interval (S3 (goal.at.After-of_interval c).Else-not-roster_long).args.figures.now ≡ c.of_interval.result
numbered c = sym (rw (le-leb 50 (length (S3 (goal.at.After-of_interval c).Else-not-roster_long).args.figures.now) (each_long (goal.at.After-of_interval c).Else-not-roster_long).0) at c.of_interval.ensures)

this_interval : (c : Else-not-of_interval) → of_interval (S4 c).args.tally.interval (S4 c).args.figures.now ≡ true
this_interval c = numbered (goal.at.Else-not-of_interval c).After-of_interval ∙ c.if-not-of_interval.false

pub returns-then-not-answer_turn : goal.returns-then-not-answer_turn
unfolding member_reply
returns-then-not-answer_turn c rest = record { reply = rw (sym c.answer_turn.ensures ∙ c.if-not-answer_turn.true) }

pub returns-then-not-asked_in_range : goal.returns-then-not-asked_in_range
unfolding member_reply
returns-then-not-asked_in_range c rest = record { reply = rw (in_turn (goal.at.returns-then-not-asked_in_range c).Else-not-answer_turn, sym c.asked_in_range.ensures ∙ c.if-not-asked_in_range.true) }

pub returns-then-not-roster_long : goal.returns-then-not-roster_long
unfolding member_reply
returns-then-not-roster_long c rest =
    record { reply = rw (in_turn (goal.at.returns-then-not-roster_long c).Else-not-answer_turn, asked_well (goal.at.returns-then-not-roster_long c).Else-not-asked_in_range, sym c.roster_long.ensures ∙ c.if-not-roster_long.true) }

pub returns-then-not-of_interval : goal.returns-then-not-of_interval
unfolding member_reply
returns-then-not-of_interval c rest =
    record { reply = rw (in_turn (goal.at.returns-then-not-of_interval c).Else-not-answer_turn, asked_well (goal.at.returns-then-not-of_interval c).Else-not-asked_in_range, long (goal.at.returns-then-not-of_interval c).Else-not-roster_long, numbered (goal.at.returns-then-not-of_interval c).After-of_interval ∙ c.if-not-of_interval.true) }

pub bounds-numbers-at : goal.bounds-numbers-at
bounds-numbers-at c =
    omega (arith, (each_long (goal.at.bounds-numbers-at c).Else-not-roster_long).1, there (goal.at.bounds-numbers-at c).Else-not-asked_in_range)

pub bounds-homes-at : goal.bounds-homes-at
bounds-homes-at c =
    omega (arith, (each_long (goal.at.bounds-homes-at c).Else-not-roster_long).2, there (goal.at.bounds-homes-at c).Else-not-asked_in_range)

pub unit_or_other-requires : goal.unit_or_other-requires
unit_or_other-requires c =
    (set_five (S2 (goal.at.unit_or_other-requires c).Else-not-asked_in_range).args.set (both (set_fine (S2 (goal.at.unit_or_other-requires c).Else-not-asked_in_range).args.set) _ (asked_well (goal.at.unit_or_other-requires c).Else-not-asked_in_range)).0, (each_long (goal.at.unit_or_other-requires c).Else-not-roster_long).0)

pub returns : goal.returns
unfolding member_reply
returns c rest =
    let a = (S4 (goal.at.returns c).Else-not-of_interval).args in
    record {
      reply =
          rw (in_turn (goal.at.returns c).Else-not-answer_turn, asked_well (goal.at.returns c).Else-not-asked_in_range, long (goal.at.returns c).Else-not-roster_long, this_interval (goal.at.returns c).Else-not-of_interval)
          (c.unit_or_other.ensures ∙ ap row_answer
          (row_told_is (lent_member rest a.figures.now a.numbers.now a.homes.now) a.direction a.set a.row));
    }
