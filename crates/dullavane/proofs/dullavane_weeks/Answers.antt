-- What the roster's call answers is told by its number.
use mathlib.Core.Path.{sym, ◌∙◌, ap}
use Rattle.dullavane.proofs.WeeklyLaws.{weeks_told, written_number}
use Rattle.dullavane.proofs.dullavane_weeks.Goals as goal

pub returns-in-Ok : goal.returns-in-Ok
returns-in-Ok c =
    let a = c.args in
    weeks_told a.intervals a.whose.now a.performances.now a.live.now a.counts.now a.defaults.now c.roster-written.result
    c.roster-written.ensures (ap written_number (sym c.in-Ok.is))

pub returns-in-Err : goal.returns-in-Err
returns-in-Err c =
    let a = c.args in
    weeks_told a.intervals a.whose.now a.performances.now a.live.now a.counts.now a.defaults.now c.roster-written.result
    c.roster-written.ensures (c.refusal_number.ensures ∙ ap written_number (sym c.in-Err.is))
