-- What was read are the fields of the definition, so their test is its test.
use mathlib.Core.Path.{◌≡◌, sym, ◌∙◌}
use mathlib.Core.Bool.{true}
use lib.Dec.{leb}
use lib.ListN.{length}
use borrow.Author.Tests.{le-leb, lt-leb}
use Rattle.rules.specs.Contents.{settings_size}
use Rattle.rules.specs.SettingsRecord.{settings, settings_in, settings_fine}
use Rattle.book.proofs.settings.read_settings.Goals as goal
use Rattle.book.proofs.settings.read_settings.Goals.{After-settings_fine, Else-part-lt8}

long_enough : (c : Else-part-lt8) → leb settings_size (length c.args.part.now) ≡ true
long_enough c = le-leb _ _ c.if-part-lt8.false

tested : (c : After-settings_fine) → settings_fine (settings_in c.args.part.now) ≡
    c.settings_fine.result
tested c = sym (rw (c.u16_at-smoothing.ensures.reply, c.u8_at-limit.ensures.reply, c.u8_at-percent.ensures.reply) at
    c.settings_fine.ensures)

pub returns-then-part-lt8 : goal.returns-then-part-lt8
unfolding settings
returns-then-part-lt8 c = record { reply = simp (lt-leb _ _ c.if-part-lt8.true) }

pub returns-then-not-settings_fine : goal.returns-then-not-settings_fine
unfolding settings
returns-then-not-settings_fine c = record { reply = simp (long_enough (goal.at.returns-then-not-settings_fine c).Else-part-lt8, tested (goal.at.returns-then-not-settings_fine c).After-settings_fine ∙ c.if-not-settings_fine.true) }

pub returns : goal.returns
unfolding settings
returns c = record {
  reply = rw (
    c.u16_at-smoothing.ensures.reply,
    c.u8_at-limit.ensures.reply,
    c.u8_at-percent.ensures.reply,
    c.u32_at.ensures.reply,
  )
      (simp (long_enough (goal.at.returns c).Else-part-lt8, tested (goal.at.returns c).After-settings_fine ∙ c.if-not-settings_fine.false));
}
