-- The test, then the row by its two figures.
use Rattle.std.specs.Prelude.{Ok}
use mathlib.Core.Path.{◌≡◌, sym, ◌∙◌, ap}
use mathlib.Core.Bool.{Bool, ◌&&◌}
use Rattle.integers.specs.Sums.{both}
use Rattle.rules.specs.declared.Reported.TheVariants as whose
use Rattle.interval.specs.Lent.{Lent}
use Rattle.kept.specs.Range.{region_fine, rows_fine}
use Rattle.kept.specs.KeptReport.{residual, place_fine, place_row}
use Rattle.answer.specs.Asked.{tally_of, lent_members}
use Rattle.answer.specs.Residual.{PerformancesWithin}
use Rattle.answer.proofs.ReportLaws.{rows_alone, row_same}
use Rattle.answer.proofs.ValuesLaws.{performances_within}
use Rattle.answer.proofs.report.residual_row.Goals as goal
use Rattle.answer.proofs.report.residual_row.Goals.{After-residual_in_range, Else-not-residual_in_range, Start}

abbrev S : After-residual_in_range → Start
S c = (goal.at.After-residual_in_range c).Start

abbrev lists : Start → Lent
lists s = lent_members s.args.figures.now s.args.homes.now s.args.rows.now

told :
    (c : After-residual_in_range) → let a = (S c).args in
    place_fine (tally_of a.units 0 a.interval) (lists (S c)) (residual a.region) ≡ c.residual_in_range.result
told c =
    let a = (S c).args in
    ap (λ (s : Bool). s && region_fine (lists (S c)) a.region)
    (sym (rows_alone (tally_of a.units 0 a.interval) (lists (S c))) ∙ rows_alone (tally_of a.units 0 0) (lists (S c)))
    ∙ sym c.residual_in_range.ensures

within : (c : Else-not-residual_in_range) → PerformancesWithin (S (goal.at.Else-not-residual_in_range c).After-residual_in_range).args.units (lists (S (goal.at.Else-not-residual_in_range c).After-residual_in_range))
within c =
    let s = S (goal.at.Else-not-residual_in_range c).After-residual_in_range in
    let t = tally_of s.args.units 0 0 in
    let there = s.requires.1 in
    let fine = both (rows_fine t (lists s)) _ (sym c.residual_in_range.ensures ∙ c.if-not-residual_in_range.false) in
    performances_within t (lists s) there.few there.figures there.homes there.rows fine.0

pub returns-then-not-residual_in_range : goal.returns-then-not-residual_in_range
returns-then-not-residual_in_range c = rw (told (goal.at.returns-then-not-residual_in_range c).After-residual_in_range ∙ c.if-not-residual_in_range.true)

pub residual_figure-requires : goal.residual_figure-requires
residual_figure-requires c = ((S (goal.at.residual_figure-requires c).After-residual_in_range).requires.0, within (goal.at.residual_figure-requires c).Else-not-residual_in_range)

pub residual_figure-requires-2 : goal.residual_figure-requires-2
residual_figure-requires-2 c = ((S (goal.at.residual_figure-requires-2 c).After-residual_in_range).requires.0, within (goal.at.residual_figure-requires-2 c).Else-not-residual_in_range)

pub returns : goal.returns
unfolding place_row
returns c =
    rw (told (goal.at.returns c).After-residual_in_range ∙ c.if-not-residual_in_range.false)
    (ap Ok (row_same (ap whose.Residual c.region_name.ensures) c.residual_figure.ensures c.residual_figure-2.ensures))
