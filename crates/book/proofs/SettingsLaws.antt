-- Laws of the definitions in specs/Settings.antt.
use Rattle.std.specs.Prelude.{Result}
use Rattle.rules.specs.declared.Refusal.{Refusal}
use Rattle.book.specs.declared.SettingsFields.{SettingsFields}
use mathlib.Core.Path.{◌≡◌, sym, ◌∙◌}
use mathlib.Core.List.{List}
use Prim.Native.Nat.{ℕ}
use Rattle.book.specs.Settings.{SettingsPromise}

pub read_settings_only : {part : List ℕ} {r s : Result SettingsFields Refusal} → SettingsPromise part r → SettingsPromise part s → r ≡ s
read_settings_only a b = a.reply ∙ sym b.reply
