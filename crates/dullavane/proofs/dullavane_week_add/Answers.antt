-- The words hold a running week and what adding to it answers is told, or they hold none and their refusal is.
use mathlib.Core.Path.{◌∙◌, subst}
use mir.Facts.{to_z-of_z}
use Rattle.rules.specs.declared.Whose.{Whose}
use Rattle.weeks.specs.Promises.{AddPromise}
use Rattle.dullavane.specs.Weekly.{WeekHeld, flag}
use Rattle.dullavane.proofs.WeeklyLaws.{week_held_means, add_refused, add_told}
use Rattle.dullavane.proofs.dullavane_week_add.Goals as goal
use Rattle.dullavane.proofs.dullavane_week_add.Goals.{Else-refusal-ne0}

in_words : (c : Else-refusal-ne0) → WeekHeld c.args.week.now
in_words c = week_held_means _ c.week_unheld-refusal.ensures c.if-refusal-ne0.false

pub returns-then-refusal-ne0 : goal.returns-then-refusal-ne0
returns-then-refusal-ne0 c =
    let a = c.args in
    add_refused a.whose a.live a.performance a.week.now (λ e. c.if-refusal-ne0.true (c.week_unheld-refusal.ensures ∙ e)) c.week_unheld-refusal.ensures

pub week_in-requires : goal.week_in-requires
week_in-requires c =
    in_words (goal.at.week_in-requires c).Else-refusal-ne0

pub tell_week-requires : goal.tell_week-requires
tell_week-requires c =
    (in_words (goal.at.tell_week-requires c).Else-refusal-ne0).long

pub returns : goal.returns
returns c =
    let a = c.args in
    let p = subst (λ (k : Whose). AddPromise k (flag a.live) a.performance c.week_in.result c.add-added.result) c.as_group.ensures
    (simp (to_z-of_z, c.ranges.performance) at c.add-added.ensures) in
    add_told a.whose a.live a.performance a.week.now c.week_in.result c.week_in.ensures c.add-added.result p c.tell_week.ensures.0
    c.tell_week.ensures.1
