-- The region is that of byte 2 and the group that of bytes 70 and 71; each test is settled by the call that made it.
use Rattle.std.proofs.Common.{◌≡◌, ℕ, [], sym, ap, ◌∙◌}
use Rattle.interval.specs.Lent.{Lent, lent_unit, named_region, series_in_range, plant_in_range}
use Rattle.units.proofs.lent.lent_in_range.Goals as goal
use Rattle.units.proofs.lent.lent_in_range.Goals.{After-series_in_range, Start}

abbrev lent : Start → Lent
lent s =
    let a = s.args in
    lent_unit a.measures.now a.sums.now [] [] a.homes.now a.rows.now a.groups.now a.deviations.now

series_told : (c : After-series_in_range) → series_in_range (named_region c.args.part.now) c.args.taken (lent (goal.at.After-series_in_range c).Start) ≡ c.series_in_range.result
unfolding series_in_range
series_told c =
    ap (λ (region : ℕ). series_in_range region c.args.taken (lent (goal.at.After-series_in_range c).Start)) (sym c.named_region.ensures) ∙ sym c.series_in_range.ensures

pub returns-then-not-series_in_range : goal.returns-then-not-series_in_range
returns-then-not-series_in_range c = rw (series_told (goal.at.returns-then-not-series_in_range c).After-series_in_range ∙ c.if-not-series_in_range.true)

pub returns : goal.returns
unfolding plant_in_range
returns c =
    rw (series_told (goal.at.returns c).After-series_in_range ∙ c.if-not-series_in_range.false)
    (c.plant_in_range.ensures ∙ ap (λ (group : ℕ). plant_in_range group c.args.taken (lent (goal.at.returns c).Start)) c.named_group.ensures)
