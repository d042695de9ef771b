-- What each call that takes a record promises, completely. Primed words and lists are what the call leaves.
use Rattle.std.specs.Prelude.{◌≡◌, List, ℕ, leb, length}
use Rattle.rules.specs.declared.Refusal.TheVariants.{TooShort}
use Rattle.rules.specs.Refusals.{Reply, at, unless}
use Rattle.rules.specs.Contents.{Counts, contents}
use Rattle.interval.specs.Lent.{Lent}
use Rattle.interval.specs.Calls.{fresh, left}
use Rattle.interval.specs.Promises.{SettingsPromise, FrequencyPromise, UnitPromise, RequirementPromise}
use Rattle.dullavane.specs.Called.{Called}
use Rattle.dullavane.specs.Words.{tally_words, with_words, held, reply_said, told, words_after}

-- ---- contents: a tally of the counts that the table announces, where there are eight words for it; what it refuses has no place
abbrev pub contents_reply : List ℕ → List ℕ → Reply Counts
contents_reply part ws = unless (leb tally_words (length ws)) TooShort (contents part)

pub record ContentsCalled (part ws : List ℕ) (r : ℕ) (ws' : List ℕ) : Type 0 where
  pub reply : r ≡ reply_said (at 0 (contents_reply part ws))
  pub tally : ws' ≡ left (λ c. with_words (fresh c)) (contents_reply part ws) ws

-- ---- calls that lend nothing but the tally's words
pub record SettingsCalled (ws part : List ℕ) (r : ℕ) (ws' : List ℕ) : Type 0 where
  pub answer : Called told words_after (λ t s. SettingsPromise t part s) (Unit {0}) (held ws) ws r ws'

pub record RequirementCalled (ws part : List ℕ) (r : ℕ) (ws' : List ℕ) : Type 0 where
  pub answer : Called told words_after (λ t s. RequirementPromise t part s) (Unit {0}) (held ws) ws r ws'

-- ---- calls with lent lists: l as they came, l' as the call leaves them
pub record FrequencyCalled (ws part : List ℕ) (l : Lent) (r : ℕ) (ws' : List ℕ) (l' : Lent) : Type 0 where
  pub answer : Called told words_after (λ t s. FrequencyPromise t part l s l') (l' ≡ l) (held ws) ws r ws'

pub record UnitCalled (ws part : List ℕ) (l : Lent) (r : ℕ) (ws' : List ℕ) (l' : Lent) : Type 0 where
  pub answer : Called told words_after (λ t s. UnitPromise t part l s l') (l' ≡ l) (held ws) ws r ws'
