-- Body by body; the answer of the first that is wrong is the book's.
use Rattle.std.specs.Prelude.{Ok}
use mathlib.Core.Path.{◌≡◌, sym, ◌∙◌, ap}
use mathlib.Core.List.{[]}
use Rattle.std.proofs.lemmas.Result.{err_from_is_err_and}
use Rattle.rules.specs.Refusals.{at}
use Rattle.rules.specs.Given.{Given}
use Rattle.rules.specs.Written.{settings_given, regions_given, units_given}
use Rattle.writer.specs.Values.{values}
use Rattle.writer.specs.Judged.{judged}
use Rattle.writer.proofs.BodiesLaws.{regions_own, units_own, requirements_own}
use Rattle.writer.proofs.WholeLaws.{settings_wrong, regions_wrong, units_wrong, requirements_left}
use Rattle.writer.proofs.write.judge_book.Goals as goal
use Rattle.writer.proofs.write.judge_book.Goals.{After-judge_regions, After-judge_units, In_ok-judge_regions, In_ok-judge_settings, Start}

abbrev given : Start → Given
given s =
    values s.args.settings s.args.region_rows.now s.args.region_qualities.now s.args.frequencies.now s.args.units
    s.args.unit_rows.now s.args.unit_qualities.now s.args.readings.now s.args.requirements s.args.requirement_rows.now

settings_fine : (c : In_ok-judge_settings) → judged (at 1 (settings_given (given (goal.at.In_ok-judge_settings c).Start))) ≡ Ok tt
settings_fine c = sym c.in_ok-judge_settings.ensures

regions_is : (c : After-judge_regions) → c.judge_regions.result ≡ judged (regions_given 5 (given (goal.at.After-judge_regions c).Start) 0)
regions_is c = c.judge_regions.ensures ∙ sym (ap judged (regions_own (given (goal.at.After-judge_regions c).Start) 5 0))

regions_fine : (c : In_ok-judge_regions) → judged (regions_given 5 (given (goal.at.In_ok-judge_regions c).Start) 0) ≡ Ok tt
regions_fine c = sym (regions_is (goal.at.In_ok-judge_regions c).After-judge_regions) ∙ c.in_ok-judge_regions.was

units_is : (c : After-judge_units) → let g = given (goal.at.After-judge_units c).Start in c.judge_units.result ≡ judged (units_given g.units 0 [] g 0)
units_is c = let g = given (goal.at.After-judge_units c).Start in c.judge_units.ensures ∙ sym (ap judged (units_own g g.units 0 [] 0))

pub returns-in_err-judge_settings : goal.returns-in_err-judge_settings
returns-in_err-judge_settings c =
    let p = err_from_is_err_and c.from_residual.result c.from_residual.ensures.1 in
    rw (p.1, p.2) (sym (settings_wrong (given (goal.at.returns-in_err-judge_settings c).Start) _ (sym c.in_err-judge_settings.ensures)))

pub returns-in_err-judge_regions : goal.returns-in_err-judge_regions
returns-in_err-judge_regions c =
    let way = goal.at.returns-in_err-judge_regions c in
    let p = err_from_is_err_and c.from_residual-in_err-judge_regions.result c.from_residual-in_err-judge_regions.ensures.1 in
    let wrong = sym (regions_is way.After-judge_regions) ∙ c.in_err-judge_regions.was in
    rw (p.1, p.2) (sym (regions_wrong (given way.Start) _ (settings_fine way.In_ok-judge_settings) wrong))

pub returns-in_err-judge_units : goal.returns-in_err-judge_units
returns-in_err-judge_units c =
    let way = goal.at.returns-in_err-judge_units c in
    let p = err_from_is_err_and c.from_residual-in_err-judge_units.result c.from_residual-in_err-judge_units.ensures.1 in
    let wrong = sym (units_is way.After-judge_units) ∙ c.in_err-judge_units.was in
    rw (p.1, p.2) (sym (units_wrong (given way.Start) _ (settings_fine way.In_ok-judge_settings) (regions_fine way.In_ok-judge_regions) wrong))

pub returns : goal.returns
returns c =
    let way = goal.at.returns c in
    let g = given way.Start in
    let units = sym (units_is way.After-judge_units) ∙ c.in_ok-judge_units.was in
    c.judge_requirements.ensures
    ∙ sym (ap judged (requirements_own g g.requirements 0 0))
    ∙ sym (requirements_left g (settings_fine way.In_ok-judge_settings) (regions_fine way.In_ok-judge_regions) units)
