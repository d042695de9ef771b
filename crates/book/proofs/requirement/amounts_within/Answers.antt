-- Each branch settles one test of the rule, in its order.
use mathlib.Core.Path.{◌≡◌}
use mathlib.Core.Bool.{true}
use lib.Dec.{leb}
use borrow.Author.Tests.{le-leb, lt-leb}
use Rattle.rules.specs.RequirementRecord.{requirement_in}
use Rattle.book.proofs.requirement.amounts_within.Goals as goal
use Rattle.book.proofs.requirement.amounts_within.Goals.{Else-u32_at-gt10000000, Else-u32_at-gt2000000, Else-u64_at-gt1000000000000}

cheap : (c : Else-u32_at-gt10000000) → leb (requirement_in c.args.part.now).price 10_000_000 ≡ true
unfolding requirement_in
cheap c = le-leb _ _ (rw c.u32_at.ensures.reply at c.if-u32_at-gt10000000.false)

bounded : (c : Else-u64_at-gt1000000000000) → leb (requirement_in c.args.part.now).cost 1_000_000_000_000 ≡ true
unfolding requirement_in
bounded c = le-leb _ _ (rw c.u64_at.ensures.reply at c.if-u64_at-gt1000000000000.false)

possible : (c : Else-u32_at-gt2000000) → leb (requirement_in c.args.part.now).enabled 2_000_000 ≡ true
unfolding requirement_in
possible c = le-leb _ _ (rw c.u32_at-2.ensures.reply at c.if-u32_at-gt2000000.false)

pub returns-then-u32_at-gt10000000 : goal.returns-then-u32_at-gt10000000
unfolding requirement_in
returns-then-u32_at-gt10000000 c = simp (lt-leb _ _ (rw c.u32_at.ensures.reply at c.if-u32_at-gt10000000.true))

pub returns-then-u64_at-gt1000000000000 : goal.returns-then-u64_at-gt1000000000000
unfolding requirement_in
returns-then-u64_at-gt1000000000000 c = simp (cheap (goal.at.returns-then-u64_at-gt1000000000000 c).Else-u32_at-gt10000000, lt-leb _ _ (rw c.u64_at.ensures.reply at c.if-u64_at-gt1000000000000.true))

pub returns-then-u32_at-gt2000000 : goal.returns-then-u32_at-gt2000000
unfolding requirement_in
returns-then-u32_at-gt2000000 c = simp (
  cheap (goal.at.returns-then-u32_at-gt2000000 c).Else-u32_at-gt10000000,
  bounded (goal.at.returns-then-u32_at-gt2000000 c).Else-u64_at-gt1000000000000,
  lt-leb _ _ (rw c.u32_at-2.ensures.reply at c.if-u32_at-gt2000000.true),
)

pub returns : goal.returns
unfolding requirement_in
returns c = simp (cheap (goal.at.returns c).Else-u32_at-gt10000000, bounded (goal.at.returns c).Else-u64_at-gt1000000000000, possible (goal.at.returns c).Else-u32_at-gt2000000)
    (rw c.u32_at-3.ensures.reply)
