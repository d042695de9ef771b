-- Without room for the record or the count that is told; else what is drawn.
use mathlib.Core.Path.{◌≡◌, sym, ◌∙◌}
use mathlib.Core.Bool.{true, ◌&&◌}
use lib.Dec.{leb}
use lib.ListN.{length}
use Rattle.dullavane.proofs.TrendsLaws.{has_room, trend_no_room, trend_was_told}
use Rattle.dullavane.proofs.dullavane_trend.Goals as goal
use Rattle.dullavane.proofs.dullavane_trend.Goals.{After-trend_fits, Else-not-trend_fits, Start}

abbrev start : After-trend_fits → Start
start c = (goal.at.After-trend_fits c).Start

fits : (c : Else-not-trend_fits) → let a = (start (goal.at.Else-not-trend_fits c).After-trend_fits).args in (leb 3 (length a.strip.now) && leb 1 (length a.drawn.now)) ≡ true
fits c = sym c.trend_fits.ensures ∙ c.if-not-trend_fits.false

pub returns-then-not-trend_fits : goal.returns-then-not-trend_fits
returns-then-not-trend_fits c =
    let a = (start (goal.at.returns-then-not-trend_fits c).After-trend_fits).args in
    trend_no_room a.part.now a.points.now a.strip.now a.drawn.now (sym c.trend_fits.ensures ∙ c.if-not-trend_fits.true)
    c.refusal_number.ensures

pub tell_trend-requires : goal.tell_trend-requires
tell_trend-requires c =
    let a = (start (goal.at.tell_trend-requires c).After-trend_fits).args in
    let room = has_room a.part.now a.points.now a.strip.now a.drawn.now (fits (goal.at.tell_trend-requires c).Else-not-trend_fits) in
    (room.strip, room.drawn)

pub returns : goal.returns
returns c =
    let a = (start (goal.at.returns c).After-trend_fits).args in
    let told = c.tell_trend.ensures in
    trend_was_told a.part.now a.points.now a.strip.now a.drawn.now (fits (goal.at.returns c).Else-not-trend_fits) c.trend.result c.trend.ensures told.0 told.1 told.2
