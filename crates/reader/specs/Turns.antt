-- What taking the next record promises: what the call promises whose turn it is by the tally.
use Rattle.std.specs.Prelude.{◌≡◌, List, ℕ, ◌≤◌, ◌<◌}
use Rattle.rules.specs.Contents.{Counts}
use Rattle.interval.specs.declared.Tally.{Tally}
use Rattle.interval.specs.declared.Step.{Step}
use Rattle.interval.specs.Tally.{before_units, units_end}
use Rattle.interval.specs.Lent.{Lent}
use Rattle.interval.specs.Promises.{SettingsPromise, FrequencyPromise, UnitPromise, RequirementPromise}

abbrev pub counts_of : Tally → Counts
counts_of t = record { units = t.units; requirements = t.requirements }

pub data TurnPromise (t : Tally) (p : List ℕ) (l : Lent) (r : Step) (l' : Lent) : Type 0 where
  as_settings : t.records < 1 → SettingsPromise t p r → l' ≡ l → TurnPromise t p l r l'
  as_frequency : 1 ≤ t.records → t.records < before_units → FrequencyPromise t p l r l' → TurnPromise t p l r l'
  as_unit : before_units ≤ t.records → t.records < units_end t → UnitPromise t p l r l' → TurnPromise t p l r l'
  as_requirement : units_end t ≤ t.records → RequirementPromise t p r → l' ≡ l → TurnPromise t p l r l'
