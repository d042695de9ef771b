-- Laws of the definitions in specs/Promises.antt.
use Rattle.std.specs.Prelude.{Result}
use mathlib.Core.Path.{◌≡◌, sym, ◌∙◌}
use mathlib.Core.Bool.{Bool, ◌&&◌}
use mathlib.Core.List.{List}
use Prim.Native.Nat.{ℕ, ◌+◌, ◌*◌}
use lib.Dec.{leb, ltb}
use lib.IntN.{ℤ, nat_abs}
use lib.Signed.{le_z}
use Rattle.integers.specs.Pairs.{gain, loss}
use lib.ListN.{length}
use Rattle.rules.specs.declared.Refusal.{Refusal}
use Rattle.interval.specs.declared.Tally.{Tally}
use Rattle.interval.specs.declared.Step.{Step}
use Rattle.interval.specs.Tally.{in_range, frequency_turn, unit_turn, answer_turn}
use Rattle.interval.specs.Lent.{Lent, figures_length, of_interval, measure_held, row_fine}
use Rattle.interval.specs.Ranges.{six_fine}
use Rattle.interval.specs.Calls.{refused_step, count_step, least_after}
use Rattle.interval.specs.Promises.{ContentsPromise, FrequencyPromise, RequirementPromise, SettingsPromise, UnitPromise}

pub contents_only : {part : List ℕ} {r r' : Result Tally Refusal} → ContentsPromise part r → ContentsPromise part r' → r ≡ r'
contents_only a b = a.reply ∙ sym b.reply

pub settings_only : {t : Tally} {part : List ℕ} {r r' : Step} → SettingsPromise t part r → SettingsPromise t part r' → r ≡ r'
settings_only a b = a.reply ∙ sym b.reply

module _ {t : Tally} {part : List ℕ} {l : Lent} {r r₂ : Step} {l' l₂ : Lent} where
  pub frequency_only : FrequencyPromise t part l r l' → FrequencyPromise t part l r₂ l₂ → (r ≡ r₂) × (l' ≡ l₂)
  frequency_only a b = (a.reply ∙ sym b.reply, a.lent ∙ sym b.lent)

  pub unit_only : UnitPromise t part l r l' → UnitPromise t part l r₂ l₂ → (r ≡ r₂) × (l' ≡ l₂)
  unit_only a b = (a.reply ∙ sym b.reply, a.lent ∙ sym b.lent)

pub requirement_only : {t : Tally} {part : List ℕ} {r r' : Step} → RequirementPromise t part r → RequirementPromise t part r' → r ≡ r'
requirement_only a b = a.reply ∙ sym b.reply

-- ---- the parts that the calls with lent lists share: each answers one value
pub frequency_turn_only : (t : Tally) {r r' : Bool} → r ≡ (in_range t && frequency_turn t) → r' ≡ (in_range t && frequency_turn t) → r ≡ r'
frequency_turn_only t a b = a ∙ sym b

pub unit_turn_only : (t : Tally) {r r' : Bool} → r ≡ (in_range t && unit_turn t) → r' ≡ (in_range t && unit_turn t) → r ≡ r'
unit_turn_only t a b = a ∙ sym b

pub answer_turn_only : (t : Tally) {r r' : Bool} → r ≡ (in_range t && answer_turn t) → r' ≡ (in_range t && answer_turn t) → r ≡ r'
answer_turn_only t a b = a ∙ sym b

pub next_least_only : (t : Tally) (number : ℕ) {r r' : ℕ} → r ≡ least_after t number → r' ≡ least_after t number → r ≡ r'
next_least_only t number a b = a ∙ sym b

pub refuse_only : {t : Tally} {refusal : Refusal} {r r' : Step} → r ≡ refused_step t refusal → r' ≡ refused_step t refusal → r ≡ r'
refuse_only a b = a ∙ sym b

pub count_only : (least : ℕ) (t : Tally) {r r' : Step} → r ≡ count_step least t → r' ≡ count_step least t → r ≡ r'
count_only least t a b = a ∙ sym b

pub of_interval_only :
    (n : ℕ) (figures : List ℤ) {r r' : Bool} → r ≡ (leb figures_length (length figures) && of_interval n figures) →
    r' ≡ (leb figures_length (length figures) && of_interval n figures) → r ≡ r'
of_interval_only n figures a b = a ∙ sym b

pub measure_held_only : (m : ℤ) {r r' : ℤ} → r ≡ measure_held m → r' ≡ measure_held m → r ≡ r'
measure_held_only m a b = a ∙ sym b

-- ---- numbers in range
pub above_only : (x : ℤ) {r r' : ℕ} → r ≡ gain x → r' ≡ gain x → r ≡ r'
above_only x a b = a ∙ sym b

pub below_only : (x : ℤ) {r r' : ℕ} → r ≡ loss x → r' ≡ loss x → r ≡ r'
below_only x a b = a ∙ sym b

pub size_only : (x : ℤ) {r r' : ℕ} → r ≡ nat_abs x → r' ≡ nat_abs x → r ≡ r'
size_only x a b = a ∙ sym b

pub within_bounds_only : (low high x : ℤ) {r r' : Bool} → r ≡ (le_z low x && le_z x high) → r' ≡ (le_z low x && le_z x high) → r ≡ r'
within_bounds_only low high x a b = a ∙ sym b

pub six_in_range_only :
    (least : ℤ) (start : ℕ) (xs : List ℤ) {r r' : Bool} → r ≡ (leb (start + 6) (length xs) && six_fine least start xs) →
    r' ≡ (leb (start + 6) (length xs) && six_fine least start xs) → r ≡ r'
six_in_range_only least start xs a b = a ∙ sym b

pub row_in_range_only :
    (units row : ℕ) (xs : List ℤ) {r r' : Bool} →
    r ≡ (leb units 512 && (ltb row 512 && (leb (8 * row + 8) (length xs) && row_fine units row xs))) →
    r' ≡ (leb units 512 && (ltb row 512 && (leb (8 * row + 8) (length xs) && row_fine units row xs))) → r ≡ r'
row_in_range_only units row xs a b = a ∙ sym b
