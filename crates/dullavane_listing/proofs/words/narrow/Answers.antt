-- A word over its width ends it; past the tests each is within.
use native.Mathlib.Nat.{not-le_of_lt}
use Rattle.dullavane_listing.proofs.CursorLaws.{wide, narrow_but}
use Rattle.dullavane_listing.proofs.words.narrow.Goals as goal

pub returns-then-words-ge-STAGES : goal.returns-then-words-ge-STAGES
returns-then-words-ge-STAGES c = wide _ (λ n. not-le_of_lt n.stage c.if-words-ge-STAGES.true)

pub returns-then-words-ge-OVER_16_BITS : goal.returns-then-words-ge-OVER_16_BITS
returns-then-words-ge-OVER_16_BITS c = wide _ (λ n. not-le_of_lt n.requirement c.if-words-ge-OVER_16_BITS.true)

pub returns-then-words-ge-OVER_16_BITS-2 : goal.returns-then-words-ge-OVER_16_BITS-2
returns-then-words-ge-OVER_16_BITS-2 c = wide _ (λ n. not-le_of_lt n.row c.if-words-ge-OVER_16_BITS-2.true)

pub returns-then-words-ge-OVER_16_BITS-3 : goal.returns-then-words-ge-OVER_16_BITS-3
returns-then-words-ge-OVER_16_BITS-3 c = wide _ (λ n. not-le_of_lt n.before c.if-words-ge-OVER_16_BITS-3.true)

pub returns-then-words-ge-OVER_16_BITS-4 : goal.returns-then-words-ge-OVER_16_BITS-4
returns-then-words-ge-OVER_16_BITS-4 c = wide _ (λ n. not-le_of_lt n.number c.if-words-ge-OVER_16_BITS-4.true)

pub returns-then-words-ge-DIRECTIONS : goal.returns-then-words-ge-DIRECTIONS
returns-then-words-ge-DIRECTIONS c = wide _ (λ n. not-le_of_lt n.direction c.if-words-ge-DIRECTIONS.true)

pub returns-then-words-ge-OVER_8_BITS : goal.returns-then-words-ge-OVER_8_BITS
returns-then-words-ge-OVER_8_BITS c = wide _ (λ n. not-le_of_lt n.set c.if-words-ge-OVER_8_BITS.true)

pub returns-then-words-ge-OVER_16_BITS-5 : goal.returns-then-words-ge-OVER_16_BITS-5
returns-then-words-ge-OVER_16_BITS-5 c = wide _ (λ n. not-le_of_lt n.members c.if-words-ge-OVER_16_BITS-5.true)

pub returns : goal.returns
returns c =
    narrow_but _ c.if-words-ge-STAGES.false c.if-words-ge-OVER_16_BITS.false c.if-words-ge-OVER_16_BITS-2.false c.if-words-ge-OVER_16_BITS-3.false c.if-words-ge-OVER_16_BITS-4.false c.if-words-ge-DIRECTIONS.false c.if-words-ge-OVER_8_BITS.false
    c.if-words-ge-OVER_16_BITS-5.false
