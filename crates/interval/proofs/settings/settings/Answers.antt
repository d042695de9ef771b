-- Out of turn is told at once. In turn the answer is the reader's: its fields make the tally, its refusal hands the tally back.
use mathlib.Core.Path.{◌≡◌, sym, ◌∙◌, ap}
use mathlib.Core.Bool.{true, ◌&&◌}
use Rattle.rules.specs.SettingsRecord.{settings}
use Rattle.interval.specs.declared.Step.{Step}
use Rattle.interval.specs.Tally.{in_range, settings_turn}
use Rattle.interval.specs.Calls.{settings_reply}
use Rattle.interval.proofs.Calls.{settled_from, settled_is}
use Rattle.interval.specs.Promises.{SettingsPromise}
use Rattle.interval.proofs.settings.settings.Goals as goal
use Rattle.interval.proofs.settings.settings.Goals.{After-read_settings-read, Else-not-settings_turn, Start}

abbrev start : Else-not-settings_turn → Start
start c = (goal.at.Else-not-settings_turn c).Start

in_turn : (c : Else-not-settings_turn) → (in_range (start c).args.tally && settings_turn (start c).args.tally) ≡ true
in_turn c = sym c.settings_turn.ensures ∙ c.if-not-settings_turn.false

-- what the reader answered is what the call answers
answers : (c : After-read_settings-read) (r : Step) → r ≡ settled_from (start (goal.at.After-read_settings-read c).Else-not-settings_turn).args.tally c.read_settings-read.result →
    SettingsPromise (start (goal.at.After-read_settings-read c).Else-not-settings_turn).args.tally (start (goal.at.After-read_settings-read c).Else-not-settings_turn).args.part.now r
unfolding settings_reply
answers c r e =
    let t = (start (goal.at.After-read_settings-read c).Else-not-settings_turn).args.tally in
    record {
      reply = rw (in_turn (goal.at.After-read_settings-read c).Else-not-settings_turn) (e ∙ ap (settled_from t) c.read_settings-read.ensures.reply
          ∙ settled_is t (settings (start (goal.at.After-read_settings-read c).Else-not-settings_turn).args.part.now));
    }

pub returns-then-not-settings_turn : goal.returns-then-not-settings_turn
unfolding settings_reply
returns-then-not-settings_turn c = record { reply = rw (sym c.settings_turn.ensures ∙ c.if-not-settings_turn.true) c.refuse.ensures }

pub returns-in-Ok : goal.returns-in-Ok
returns-in-Ok c =
    answers (goal.at.returns-in-Ok c).After-read_settings-read _ (ap (settled_from (start (goal.at.returns-in-Ok c).Else-not-settings_turn).args.tally) (sym c.in-Ok.is))

pub returns-in-Err : goal.returns-in-Err
returns-in-Err c =
    answers (goal.at.returns-in-Err c).After-read_settings-read _ (c.refuse-in-Err.ensures ∙ ap (settled_from (start (goal.at.returns-in-Err c).Else-not-settings_turn).args.tally) (sym c.in-Err.is))
