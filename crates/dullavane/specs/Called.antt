-- What a call over words promises, by one form for all: the call below the boundary on the tally that the words hold, its answer told as a number and
-- as words. Where there is no tally to call it on, the refusal is told, and all that is lent stays.
use Rattle.std.specs.Prelude.{◌≡◌, List, ℕ}
use Rattle.rules.specs.declared.Refusal.{Refusal}
use Rattle.rules.specs.Refusals.{Reply, taken, refused, number}
use Rattle.interval.specs.declared.Tally.{Tally}

-- S is what the call below answers; told is its number, after the words that it leaves of those that were there
module _ {S : Type 0} (told : S → ℕ) (after : S → List ℕ → List ℕ) where
  pub record Stepped (Call : S → Type 0) (ws : List ℕ) (r : ℕ) (ws' : List ℕ) : Type 0 where
    pub step : S
    pub call : Call step
    pub reply : r ≡ told step
    pub words : ws' ≡ after step ws

-- Kept says that every other lent list stays
pub record CallRefused (Kept : Type 0) (refusal : Refusal) (ws : List ℕ) (r : ℕ) (ws' : List ℕ) : Type 0 where
  pub reply : r ≡ number refusal
  pub words : ws' ≡ ws
  pub kept : Kept

unfoldable pub Called : {S : Type 0} → (S → ℕ) → (S → List ℕ → List ℕ) → (Tally → S → Type 0) → Type 0 → Reply Tally → List ℕ → ℕ → List ℕ → Type 0
Called told after Call Kept (taken t) ws r ws' = Stepped told after (Call t) ws r ws'
Called told after Call Kept (refused refusal) ws r ws' = CallRefused Kept refusal ws r ws'
