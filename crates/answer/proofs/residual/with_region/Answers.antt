-- A region that is not of the set leaves the residual as it is; one of the set joins it.
use mathlib.Core.Path.{sym, ◌∙◌}
use Rattle.answer.specs.Asked.{lent_members}
use Rattle.answer.proofs.ResidualLaws.{Joins, joins, same_member, added_fits, added_back, residual_stays}
use Rattle.answer.proofs.residual.with_region.Goals as goal
use Rattle.answer.proofs.residual.with_region.Goals.{After-region_member-next, Start}

abbrev S : After-region_member-next → Start
S c = (goal.at.After-region_member-next c).Start

met :
    (c : After-region_member-next) → let s = S c in let a = s.args in Joins a.units (lent_members a.figures.now a.homes.now a.rows.now)
    a.direction a.set s.requires.1 a.region a.sum c.region_member-next.result
met c =
    let s = S c in
    let a = s.args in
    joins a.units (lent_members a.figures.now a.homes.now a.rows.now) a.direction a.set s.requires.1 a.region s.requires.0
    (sym c.covers.ensures ∙ c.if-not-covers.false) s.requires.2 c.region_member-next.ensures

pub returns-then-not-covers : goal.returns-then-not-covers
returns-then-not-covers c =
    let a = c.args in
    c.requires.2 ∙ sym (residual_stays a.units (lent_members a.figures.now a.homes.now a.rows.now) a.direction a.set a.region
    (sym c.covers.ensures ∙ c.if-not-covers.true))

pub overflow_add-result : goal.overflow_add-result
overflow_add-result c = added_fits (met (goal.at.overflow_add-result c).After-region_member-next).payment

pub overflow_add-result-2 : goal.overflow_add-result-2
overflow_add-result-2 c = added_fits (met (goal.at.overflow_add-result-2 c).After-region_member-next).used

pub overflow_add-result-3 : goal.overflow_add-result-3
overflow_add-result-3 c = added_fits (met (goal.at.overflow_add-result-3 c).After-region_member-next).unused

pub returns : goal.returns
returns c =
    let k = met (goal.at.returns c).After-region_member-next in
    same_member c.worse.ensures (added_back k.payment) (added_back k.used) (added_back k.unused) ∙ k.is
