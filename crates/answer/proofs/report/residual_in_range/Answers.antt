-- The rows first, which are read by homes and rows alone, then the region's figures.
use mathlib.Core.Path.{◌≡◌, sym, ◌∙◌}
use Rattle.kept.specs.Range.{rows_fine}
use Rattle.answer.specs.Asked.{tally_of, lent_members}
use Rattle.answer.proofs.ReportLaws.{rows_alone}
use Rattle.answer.proofs.report.residual_in_range.Goals as goal
use Rattle.answer.proofs.report.residual_in_range.Goals.{After-rows_in_range}

told :
    (c : After-rows_in_range) → let a = c.args in
    rows_fine (tally_of a.units 0 0) (lent_members a.figures.now a.homes.now a.rows.now) ≡ c.rows_in_range.result
told c =
    let a = c.args in
    sym (c.rows_in_range.ensures ∙ rows_alone (tally_of a.units 0 0) (lent_members a.figures.now a.homes.now a.rows.now))

pub returns-then-not-rows_in_range : goal.returns-then-not-rows_in_range
returns-then-not-rows_in_range c = rw (told (goal.at.returns-then-not-rows_in_range c).After-rows_in_range ∙ c.if-not-rows_in_range.true)

pub returns : goal.returns
returns c = rw (told (goal.at.returns c).After-rows_in_range ∙ c.if-not-rows_in_range.false) c.region_within.ensures
