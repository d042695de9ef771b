-- Kind 1, one record of 8 (01, The book).
use Rattle.std.specs.Prelude.{Bool, true, ◌&&◌, List, ℕ, leb, length}
use Rattle.rules.specs.declared.Refusal.TheVariants.{EndsEarly, SettingsField}
use Rattle.rules.specs.Quantities.{points}
use Rattle.rules.specs.Layout.{number_of, settings_smoothing, settings_limit, settings_percent, settings_interval}
use Rattle.rules.specs.Refusals.{Reply, taken, unless}
use Rattle.rules.specs.Book.{Settings}
use Rattle.rules.specs.Contents.{settings_size}

-- u16 smoothing a, u8 bad-frequency limit, u8 bad-unit percent, u32 interval number
abbrev pub settings_in : List ℕ → Settings
settings_in bs =
    record {
      smoothing = number_of settings_smoothing bs;
      limit = number_of settings_limit bs;
      percent = number_of settings_percent bs;
      interval = number_of settings_interval bs;
    }

-- a is 1 to 10,000, the limit 0 to 75, the percent 0 to 100
abbrev pub settings_fine : Settings → Bool
settings_fine s = leb 1 s.smoothing && leb s.smoothing 10_000 && leb s.limit points && leb s.percent 100

-- `fit`: the numbers fit their fields, as what is read does; one that is handed in and does not breaks its field's rule (02, R-4)
abbrev pub settings_judged : Bool → List ℕ → Reply Settings
settings_judged fit bs = unless (fit && settings_fine (settings_in bs)) SettingsField (taken (settings_in bs))

unfoldable pub settings : List ℕ → Reply Settings
settings bs = unless (leb settings_size (length bs)) EndsEarly (settings_judged true bs)
