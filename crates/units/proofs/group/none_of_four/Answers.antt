-- The first of the four that is of the group settles it; past three the last does.
use Rattle.std.proofs.Common.{◌≡◌, ℕ, ◌+◌, Bool, true, sym, add-zero, arith, eq-eqb, ne_eqb}
use Rattle.integers.specs.Sums.{every}
use Rattle.integers.proofs.Sums.{every_fails}
use Rattle.units.specs.Groups.{not_of}
use Rattle.units.proofs.group.none_of_four.Goals as goal
use Rattle.units.proofs.group.none_of_four.Goals.{Start}

abbrev tests : Start → ℕ → Bool
tests s i = not_of s.args.group s.args.groups.now (s.args.from + i)

last_settles : (p : ℕ → Bool) → p 0 ≡ true → p 1 ≡ true → p 2 ≡ true → every 4 p ≡ p 3
unfolding every
last_settles p a b c = rw (a, b, c)

pub returns-then-groups-from : goal.returns-then-groups-from
returns-then-groups-from c =
    sym (every_fails 4 (tests (goal.at.returns-then-groups-from c).Start) 0 (omega arith) (rw (add-zero c.args.from, eq-eqb _ _ c.if-groups-from.true)))

pub returns-then-groups-from-2 : goal.returns-then-groups-from-2
returns-then-groups-from-2 c =
    sym (every_fails 4 (tests (goal.at.returns-then-groups-from-2 c).Start) 1 (omega arith) (rw (eq-eqb _ _ c.if-groups-from-2.true)))

pub returns-then-groups-from-3 : goal.returns-then-groups-from-3
returns-then-groups-from-3 c =
    sym (every_fails 4 (tests (goal.at.returns-then-groups-from-3 c).Start) 2 (omega arith) (rw (eq-eqb _ _ c.if-groups-from-3.true)))

pub returns : goal.returns
returns c =
    sym (last_settles (tests (goal.at.returns c).Start) (rw (add-zero c.args.from, ne_eqb _ _ c.if-groups-from.false)) (rw (ne_eqb _ _ c.if-groups-from-2.false)) (rw (ne_eqb _ _ c.if-groups-from-3.false)))
