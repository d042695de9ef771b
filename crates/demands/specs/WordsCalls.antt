-- What proofs/WordsCalls.antt speaks of.
use Rattle.std.specs.Prelude.{◌≡◌, List, ℕ}
use Rattle.interval.specs.declared.Tally.{Tally}
use Rattle.interval.specs.declared.Step.{Step}
use Rattle.interval.specs.Lent.{Lent}
use Rattle.interval.specs.Promises.{SettingsPromise, FrequencyPromise, UnitPromise, RequirementPromise}
use Rattle.demands.specs.WordsChain.{Turn, of_settings, of_frequency, of_unit, of_requirement}

-- ---- the call below it, on a tally
module _ (p : List ℕ) (t : Tally) (l : Lent) (s : Step) (l' : Lent) where
  pub data StepCall : Turn → Type 0 where
    settings_step : SettingsPromise t p s → l' ≡ l → StepCall of_settings
    frequency_step : FrequencyPromise t p l s l' → StepCall of_frequency
    unit_step : UnitPromise t p l s l' → StepCall of_unit
    requirement_step : RequirementPromise t p s → l' ≡ l → StepCall of_requirement
