-- RCR is told by reliability, bad units and the points.
use mathlib.Core.Path.{sym, ◌∙◌}
use mathlib.Core.List.{[]}
use Rattle.answer.specs.Asked.{lent}
use Rattle.answer.proofs.RcrLaws.{points_alone, homes_alone, found_unreliable, found_many_bad, found_points}
use Rattle.answer.proofs.rcr.rcr.Goals as goal

pub all_reliable-requires : goal.all_reliable-requires
all_reliable-requires c = c.requires.points.figures_long

pub returns-then-not-all_reliable : goal.returns-then-not-all_reliable
returns-then-not-all_reliable c =
    let a = c.args in
    found_unreliable a.units a.percent a.direction a.set
    (lent a.measures.now a.sums.now a.figures.now a.homes.now []) (sym c.all_reliable.ensures ∙ c.if-not-all_reliable.true)

pub few_bad-requires : goal.few_bad-requires
few_bad-requires c = let h = c.requires in (h.few, h.percent, homes_alone h.homes)

pub returns-then-not-few_bad : goal.returns-then-not-few_bad
returns-then-not-few_bad c =
    let a = c.args in
    found_many_bad a.units a.percent a.direction a.set
    (lent a.measures.now a.sums.now a.figures.now a.homes.now [])
    (sym c.all_reliable.ensures ∙ c.if-not-all_reliable.false) (sym c.few_bad.ensures ∙ c.if-not-few_bad.true)

pub largest_response-requires : goal.largest_response-requires
largest_response-requires c = points_alone c.requires.points

pub returns : goal.returns
returns c =
    let a = c.args in
    found_points a.units a.percent a.direction a.set
    (lent a.measures.now a.sums.now a.figures.now a.homes.now [])
    c.largest_response.ensures (sym c.all_reliable.ensures ∙ c.if-not-all_reliable.false)
    (sym c.few_bad.ensures ∙ c.if-not-few_bad.false)
