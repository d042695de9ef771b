-- Who the member is and a full week are tested first, with the record where they refuse; then the record, and one interval more.
use mathlib.Core.Path.{◌≡◌, sym, ◌∙◌, ap}
use mathlib.Core.Bool.{true}
use Prim.Native.Nat.{ℕ, ◌*◌}
use mir.Facts.{to_z-of_z}
use borrow.Author.Tests.{lt-ltb, le-ltb}
use Rattle.rules.specs.Quantities.{performance_limit}
use Rattle.rules.specs.Week.{interval, whose_fine}
use Rattle.rules.specs.RunningWeek.{add_reply, left_by_a_run}
use Rattle.weeks.specs.Promises.{added_of}
use Rattle.weeks.specs.Runs.{more_reply, units_fine}
use Rattle.weeks.proofs.Runs.{run_means, fine_units, reach_units}
use Rattle.weeks.proofs.running.add.Goals as goal
use Rattle.weeks.proofs.running.add.Goals.{After-is_fine, Else-not-is_fine, Else-not-is_left_by_a_run}

tested : (c : After-is_fine) → whose_fine c.args.whose ≡ c.is_fine.result
tested c = sym (c.is_fine.ensures ∙ ap units_fine c.units_of-units.ensures ∙ fine_units c.args.whose)

fine : (c : Else-not-is_fine) → whose_fine c.args.whose ≡ true
fine c = tested (goal.at.Else-not-is_fine c).After-is_fine ∙ c.if-not-is_fine.false

held : (c : Else-not-is_left_by_a_run) → left_by_a_run c.args.week ≡ true
held c = sym c.is_left_by_a_run.ensures ∙ c.if-not-is_left_by_a_run.false

pub returns-then-not-is_fine : goal.returns-then-not-is_fine
unfolding add_reply
returns-then-not-is_fine c =
    record { reply = c.record_first.ensures ∙ sym (rw (tested (goal.at.returns-then-not-is_fine c).After-is_fine ∙ c.if-not-is_fine.true)) }

pub returns-then-week-ge-MOST_INTERVALS : goal.returns-then-week-ge-MOST_INTERVALS
unfolding add_reply
returns-then-week-ge-MOST_INTERVALS c =
    let a = c.args in
    record { reply = c.record_first-then-week-ge-MOST_INTERVALS.ensures ∙ sym (rw (fine (goal.at.returns-then-week-ge-MOST_INTERVALS c).Else-not-is_fine, le-ltb a.week.seen 2_016 c.if-week-ge-MOST_INTERVALS.true)) }

pub returns-then-not-is_left_by_a_run : goal.returns-then-not-is_left_by_a_run
unfolding add_reply
returns-then-not-is_left_by_a_run c =
    record { reply = rw (sym c.is_left_by_a_run.ensures ∙ c.if-not-is_left_by_a_run.true) }

pub one_more-requires : goal.one_more-requires
one_more-requires c =
    (run_means c.args.week (held (goal.at.one_more-requires c).Else-not-is_left_by_a_run), c.if-week-ge-MOST_INTERVALS.false, c.reach.ensures.1)

pub returns : goal.returns
unfolding add_reply
returns c =
    let a = c.args in
    let e = simp (to_z-of_z, c.ranges.performance) at c.one_more.ensures in
    let far = c.reach.ensures.0 ∙ ap (λ (k : ℕ). k * performance_limit) c.units_of-units.ensures ∙ reach_units a.whose in
    record {
      reply = rw (held (goal.at.returns c).Else-not-is_left_by_a_run, fine (goal.at.returns c).Else-not-is_fine, lt-ltb a.week.seen 2_016 c.if-week-ge-MOST_INTERVALS.false)
          (e ∙ ap (λ (n : ℕ). added_of (more_reply n a.week (interval a.live a.performance))) far);
    }
