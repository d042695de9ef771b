-- A word over its width is told at its turn; past five tests the last word settles it.
use native.Mathlib.Nat.{not-le_of_lt}
use Rattle.dullavane.proofs.WordsLaws.{wide, narrow_but}
use Rattle.dullavane.proofs.words.narrow.Goals as goal

pub returns-then-words-ge-OVER_16_BITS : goal.returns-then-words-ge-OVER_16_BITS
returns-then-words-ge-OVER_16_BITS c = wide _ (λ n. not-le_of_lt n.units c.if-words-ge-OVER_16_BITS.true)

pub returns-then-words-ge-OVER_16_BITS-2 : goal.returns-then-words-ge-OVER_16_BITS-2
returns-then-words-ge-OVER_16_BITS-2 c = wide _ (λ n. not-le_of_lt n.requirements c.if-words-ge-OVER_16_BITS-2.true)

pub returns-then-words-ge-OVER_16_BITS-3 : goal.returns-then-words-ge-OVER_16_BITS-3
returns-then-words-ge-OVER_16_BITS-3 c = wide _ (λ n. not-le_of_lt n.records c.if-words-ge-OVER_16_BITS-3.true)

pub returns-then-words-ge-OVER_16_BITS-4 : goal.returns-then-words-ge-OVER_16_BITS-4
returns-then-words-ge-OVER_16_BITS-4 c = wide _ (λ n. not-le_of_lt n.smoothing c.if-words-ge-OVER_16_BITS-4.true)

pub returns-then-words-ge-OVER_8_BITS : goal.returns-then-words-ge-OVER_8_BITS
returns-then-words-ge-OVER_8_BITS c = wide _ (λ n. not-le_of_lt n.limit c.if-words-ge-OVER_8_BITS.true)

pub returns : goal.returns
returns c =
    narrow_but _ c.if-words-ge-OVER_16_BITS.false c.if-words-ge-OVER_16_BITS-2.false c.if-words-ge-OVER_16_BITS-3.false c.if-words-ge-OVER_16_BITS-4.false c.if-words-ge-OVER_8_BITS.false
