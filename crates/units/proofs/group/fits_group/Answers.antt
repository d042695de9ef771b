-- Whether the unit joins settles which tests are asked, and each is settled by what made it.
use Rattle.std.proofs.Common.{◌≡◌, true, leb, sym, ◌∙◌, eq-eqb, ne_eqb, leb-true}
use Rattle.integers.specs.Sums.{both}
use Rattle.units.specs.Groups.{follows}
use Rattle.units.proofs.group.fits_group.Goals as goal
use Rattle.units.proofs.group.fits_group.Goals.{After-joins, Start, Then-joins}

abbrev S : After-joins → Start
S c = (goal.at.After-joins c).Start

joined : (c : Then-joins) → let a = (S (goal.at.Then-joins c).After-joins).args in follows a.fields.group a.row a.groups.now ≡ true
joined c = sym c.joins.ensures ∙ c.if-joins.true

pub overflow_sub-row : goal.overflow_sub-row
overflow_sub-row c = leb-true 1 (S (goal.at.overflow_sub-row c).After-joins).args.row (both (leb 1 (S (goal.at.overflow_sub-row c).After-joins).args.row) _ (joined (goal.at.overflow_sub-row c).Then-joins)).0

pub returns-then-homes-row : goal.returns-then-homes-row
returns-then-homes-row c =
    rw (joined (goal.at.returns-then-homes-row c).Then-joins, ne_eqb _ _ c.if-homes-row.true)

pub returns-then-not-no_three : goal.returns-then-not-no_three
returns-then-not-no_three c =
    rw (joined (goal.at.returns-then-not-no_three c).Then-joins, eq-eqb _ _ c.if-homes-row.false, sym c.no_three.ensures ∙ c.if-not-no_three.true)

pub returns-then-joins : goal.returns-then-joins
returns-then-joins c =
    rw (joined (goal.at.returns-then-joins c).Then-joins, eq-eqb _ _ c.if-homes-row.false, sym c.no_three.ensures ∙ c.if-not-no_three.false) c.no_three-then-joins.ensures

pub returns : goal.returns
returns c = rw (sym c.joins.ensures ∙ c.if-joins.false)
