-- What a chain of C calls has come to: the tally, by a chain of the calls below, and the words that hold it.
use mathlib.Core.Path.{◌≡◌}
use mathlib.Core.List.{List}
use Prim.Native.Nat.{ℕ, ◌≤◌}
use lib.ListN.{length}
use Rattle.rules.specs.Refusals.{taken}
use Rattle.interval.specs.declared.Tally.{Tally}
use Rattle.interval.specs.Lent.{Lent}
use Rattle.chain.specs.Chain.{Chain}
use Rattle.dullavane.specs.Words.{tally_words, with_words, held}

module _ (head : List ℕ) (part : ℕ → List ℕ) (l₀ : Lent) (ws₀ : List ℕ) where
  pub record Tallied (n : ℕ) (ws : List ℕ) (l : Lent) : Type 0 where
    pub tally : Tally
    pub chain : Chain head part l₀ n tally l
    -- its words are the tally's, and those past the eighth are as they were lent
    pub words : ws ≡ with_words tally ws₀
    -- so no call finds it out of its words' widths
    pub held : held ws ≡ taken tally
    pub long : tally_words ≤ length ws₀
