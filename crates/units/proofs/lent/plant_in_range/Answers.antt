-- Each test is settled by the call or the number that made it; a unit that joins no group reads nothing.
use Rattle.std.proofs.Common.{◌≡◌, ◌+◌, ◌-◌, ◌*◌, ◌<◌, ◌≤◌, true, leb, length, sym, ◌∙◌, arith, le-ltb, lt-ltb, le-leb, leb-true}
use Rattle.integers.specs.Sums.{both}
use Rattle.interval.specs.Lent.{row_fine, plant_in_range}
use Rattle.units.specs.Groups.{follows}
use Rattle.units.proofs.lent.plant_in_range.Goals as goal
use Rattle.units.proofs.lent.plant_in_range.Goals.{After-row_in_range, Else-not-joins, Start}

abbrev S : Else-not-joins → Start
S c = (goal.at.Else-not-joins c).Start

joined : (c : Else-not-joins) → let a = (S c).args in follows a.group a.taken a.groups.now ≡ true
joined c = sym c.joins.ensures ∙ c.if-not-joins.false

some : (c : Else-not-joins) → 1 ≤ (S c).args.taken
some c = leb-true 1 (S c).args.taken (both (leb 1 (S c).args.taken) _ (joined c)).0

told : (c : After-row_in_range) → let a = (S (goal.at.After-row_in_range c).Else-not-joins).args in row_fine a.taken (a.taken - 1) a.rows.now ≡ c.row_in_range.result
told c =
    let s = S (goal.at.After-row_in_range c).Else-not-joins in
    let n = s.args.taken in
    let first : n ≤ 512 = omega (arith, s.requires) in
    let second : n - 1 < 512 = omega (arith, s.requires) in
    let third : 8 * (n - 1) + 8 ≤ length s.args.rows.now = omega (arith, s.requires, some (goal.at.After-row_in_range c).Else-not-joins) in
    sym (rw (le-leb n 512 first, lt-ltb (n - 1) 512 second, le-leb (8 * (n - 1) + 8) (length s.args.rows.now) third) at c.row_in_range.ensures)

pub returns-then-not-joins : goal.returns-then-not-joins
unfolding plant_in_range
returns-then-not-joins c = rw (sym c.joins.ensures ∙ c.if-not-joins.true)

pub overflow_sub-before : goal.overflow_sub-before
overflow_sub-before c = some (goal.at.overflow_sub-before c).Else-not-joins

pub returns-then-homes-before-ge-PASSED_OVER : goal.returns-then-homes-before-ge-PASSED_OVER
unfolding plant_in_range
returns-then-homes-before-ge-PASSED_OVER c =
    rw (joined (goal.at.returns-then-homes-before-ge-PASSED_OVER c).Else-not-joins, le-ltb _ 10 c.if-homes-before-ge-PASSED_OVER.true)

pub returns-then-not-row_in_range : goal.returns-then-not-row_in_range
unfolding plant_in_range
returns-then-not-row_in_range c =
    rw (joined (goal.at.returns-then-not-row_in_range c).Else-not-joins, lt-ltb _ 10 c.if-homes-before-ge-PASSED_OVER.false, told (goal.at.returns-then-not-row_in_range c).After-row_in_range ∙ c.if-not-row_in_range.true)

pub returns : goal.returns
unfolding plant_in_range
returns c =
    rw (joined (goal.at.returns c).Else-not-joins, lt-ltb _ 10 c.if-homes-before-ge-PASSED_OVER.false, told (goal.at.returns c).After-row_in_range ∙ c.if-not-row_in_range.false) c.each_within.ensures
