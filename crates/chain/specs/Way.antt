-- What proofs/Way.antt speaks of.
use Rattle.std.specs.Prelude.{◌≡◌, cond, List, ℕ, suc, ◌+◌, ◌≤◌, ◌<◌, eqb, Ok}
use Rattle.rules.specs.Contents.{Counts}
use Rattle.interval.specs.declared.Tally.{Tally}
use Rattle.interval.specs.declared.Step.{Step}
use Rattle.interval.specs.Tally.{before_units}
use Rattle.interval.specs.Lent.{Lent}
use Rattle.interval.specs.Promises.{ContentsPromise, SettingsPromise, FrequencyPromise, UnitPromise, RequirementPromise}
use Rattle.chain.specs.Taken.{counts_in}
use Rattle.chain.specs.Chain.{Taken}
use Rattle.chain.specs.BookRecords.{record_size}

-- the records of a book, by the counts of its table of contents
abbrev pub records_of : Counts → ℕ
records_of c = before_units + c.units + c.requirements

-- what the call for record n looks at: the record, and behind the last requirement whether a byte follows
abbrev pub reads : Counts → ℕ → ℕ
reads c n = record_size c.units n + cond (eqb (n + 1) (records_of c)) 1 0

-- ---- the call for record n, handed the bytes p, by its promise: r is its answer, l' the lent lists as it leaves them
pub data Call (c : Counts) (p : List ℕ) (n : ℕ) (t : Tally) (l : Lent) (r : Step) (l' : Lent) : Type 0 where
  for_settings : n ≡ 0 → SettingsPromise t p r → l' ≡ l → Call c p n t l r l'
  for_frequency : 1 ≤ n → n < before_units → FrequencyPromise t p l r l' → Call c p n t l r l'
  for_unit : before_units ≤ n → n < before_units + c.units → UnitPromise t p l r l' → Call c p n t l r l'
  for_requirement : before_units + c.units ≤ n → n < records_of c → RequirementPromise t p r → l' ≡ l → Call c p n t l r l'

-- ---- THE WAY: the calls have taken the first n records, and refused none
module _ (head : List ℕ) (part : ℕ → List ℕ) (l₀ : Lent) where
  pub data Way : ℕ → Tally → Lent → Type 0 where
    opens : {t : Tally} → ContentsPromise head (Ok t) → Way 0 t l₀
    takes : {n : ℕ} {t : Tally} {l l' : Lent} {r : Step} → Way n t l → Call (counts_in head) (part n) n t l r l' → Taken r → Way (suc n) r.tally l'
