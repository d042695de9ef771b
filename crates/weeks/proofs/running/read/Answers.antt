-- The tests in their order, then what the record tells.
use mathlib.Core.Path.{◌≡◌, sym, ◌∙◌, ap}
use mathlib.Core.Bool.{true}
use Rattle.rules.specs.Week.{whose_fine}
use Rattle.rules.specs.RunningWeek.{read_reply, left_by_a_run}
use Rattle.weeks.specs.Runs.{units_fine}
use Rattle.weeks.proofs.Runs.{run_means, fine_units}
use Rattle.weeks.proofs.running.read.Goals as goal
use Rattle.weeks.proofs.running.read.Goals.{After-is_fine, Else-not-is_left_by_a_run}

held : (c : Else-not-is_left_by_a_run) → left_by_a_run c.args.week ≡ true
held c = sym c.is_left_by_a_run.ensures ∙ c.if-not-is_left_by_a_run.false

tested : (c : After-is_fine) → whose_fine c.args.whose ≡ c.is_fine.result
tested c = sym (c.is_fine.ensures ∙ ap units_fine c.units_of.ensures ∙ fine_units c.args.whose)

pub returns-then-not-is_left_by_a_run : goal.returns-then-not-is_left_by_a_run
unfolding read_reply
returns-then-not-is_left_by_a_run c =
    record { reply = rw (sym c.is_left_by_a_run.ensures ∙ c.if-not-is_left_by_a_run.true) }

pub returns-then-not-is_fine : goal.returns-then-not-is_fine
unfolding read_reply
returns-then-not-is_fine c =
    record { reply = rw (held (goal.at.returns-then-not-is_fine c).Else-not-is_left_by_a_run, tested (goal.at.returns-then-not-is_fine c).After-is_fine ∙ c.if-not-is_fine.true) }

pub tell-requires : goal.tell-requires
tell-requires c =
    run_means c.args.week (held (goal.at.tell-requires c).Else-not-is_left_by_a_run)

pub returns : goal.returns
unfolding read_reply
returns c =
    record { reply = rw (held (goal.at.returns c).Else-not-is_left_by_a_run, tested (goal.at.returns c).After-is_fine ∙ c.if-not-is_fine.false) c.tell.ensures }
