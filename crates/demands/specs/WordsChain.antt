-- A CHAIN OF C CALLS: dullavane_contents, and then calls for records, each with the tally's words and the lent lists as the call before left them. A call that
-- returns 0 has taken its record; any other number is a refusal, of any bytes, and may stand anywhere in it. Units may come by runs, singly, or mixed. Lists
-- may be longer than is asked for, and so may the words. Over what the calls promise (crates/dullavane, Promises), not over their code.
use Rattle.std.specs.Prelude.{◌≡◌, List, ℕ, ◌+◌, ◌-◌, ◌≤◌, ◌<◌, suc, get_or}
use Rattle.rules.specs.Contents.{Counts}
use Rattle.interval.specs.Tally.{before_units}
use Rattle.interval.specs.Lent.{Lent}
use Rattle.chain.specs.Way.{records_of}
use Rattle.chain.specs.Runs.{HandsRun}
use Rattle.dullavane.specs.Promises.{SettingsCalled, FrequencyCalled, UnitCalled, RequirementCalled, ContentsCalled}
use Rattle.dullavane.specs.Runs.{UnitsCalled}

-- ---- the four calls that take a record, and whose turn it is at record n
pub data Turn : Type 0 where
  of_settings : Turn
  of_frequency : Turn
  of_unit : Turn
  of_requirement : Turn

abbrev pub Due : Counts → ℕ → Turn → Type 0
Due c n of_settings = n ≡ 0
Due c n of_frequency = (1 ≤ n) × (n < before_units)
Due c n of_unit = (before_units ≤ n) × (n < before_units + c.units)
Due c n of_requirement = (before_units + c.units ≤ n) × (n < records_of c)

-- ---- a C call that takes a record: it is handed the part p of a book, the tally's words and lent lists; it returns r
module _ (p ws : List ℕ) (l : Lent) (r : ℕ) (ws' : List ℕ) (l' : Lent) where
  pub data WordsCall : Turn → Type 0 where
    settings_called : SettingsCalled ws p r ws' → l' ≡ l → WordsCall of_settings
    frequency_called : FrequencyCalled ws p l r ws' l' → WordsCall of_frequency
    unit_called : UnitCalled ws p l r ws' l' → WordsCall of_unit
    requirement_called : RequirementCalled ws p r ws' → l' ≡ l → WordsCall of_requirement

-- how many records the third word has grown by
abbrev pub words_added : List ℕ → List ℕ → ℕ
words_added ws ws' = get_or ws' 2 0 - get_or ws 2 0

-- ---- n records were taken, `part m` is what the call that took record m was handed
module _ (head : List ℕ) (part : ℕ → List ℕ) (l₀ : Lent) (ws₀ : List ℕ) where
  pub data WordsChain : ℕ → List ℕ → Lent → Type 0 where
    begun : {ws : List ℕ} → ContentsCalled head ws₀ 0 ws → WordsChain 0 ws l₀
    took : {n : ℕ} {ws ws' : List ℕ} {l l' : Lent} {turn : Turn} → WordsChain n ws l → WordsCall (part n) ws l 0 ws' l' turn → WordsChain (suc n) ws' l'
    refused_record :
        {n r : ℕ} {p ws ws' : List ℕ} {l l' : Lent} {turn : Turn} → WordsChain n ws l → WordsCall p ws l r ws' l' turn → 0 < r → WordsChain n ws' l'
    -- a run has added as many records as the word that counts them has grown by, whether or not it was refused behind them
    took_run :
        {n r : ℕ} {run ws ws' : List ℕ} {l l' : Lent} → WordsChain n ws l → UnitsCalled ws run l r ws' l' → HandsRun part n (words_added ws ws') run →
        WordsChain (n + words_added ws ws') ws' l'
    refused_contents : {n r : ℕ} {p ws ws' : List ℕ} {l : Lent} → WordsChain n ws l → ContentsCalled p ws r ws' → 0 < r → WordsChain n ws' l
