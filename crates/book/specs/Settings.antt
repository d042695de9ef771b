-- What the reader of the settings record answers and promises.
use Rattle.rules.specs.declared.Refusal.{Refusal}
use Rattle.std.specs.Prelude.{◌≡◌, List, ℕ, Result, Ok, Err}
use Rattle.rules.specs.Refusals.{Reply}
use Rattle.rules.specs.Book.{Settings}
use Rattle.rules.specs.SettingsRecord.{settings}
use Rattle.book.specs.declared.SettingsFields.{SettingsFields}
use Rattle.book.specs.Replies.{answered}

abbrev pub settings_of : Settings → SettingsFields
settings_of s = record { smoothing = s.smoothing; limit = s.limit; percent = s.percent; interval = s.interval }

abbrev pub settings_answer : Reply Settings → Result SettingsFields Refusal
settings_answer reply = answered (λ s. Ok (settings_of s)) Err reply

pub record SettingsPromise (part : List ℕ) (r : Result SettingsFields Refusal) : Type 0 where
  pub reply : r ≡ settings_answer (settings part)
