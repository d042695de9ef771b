-- Each branch settles one test of the rule, in its order.
use mathlib.Core.Path.{◌≡◌, sym, ◌∙◌, ap}
use mathlib.Core.Bool.{true}
use lib.Dec.{leb}
use borrow.Author.Tests.{le-leb, lt-leb}
use Rattle.rules.specs.Bytes.{number_at}
use Rattle.rules.specs.RequirementRecord.{requirement_in, set_fine}
use Rattle.book.proofs.requirement.requirement_fields_fine.Goals as goal
use Rattle.book.proofs.requirement.requirement_fields_fine.Goals.{After-region_set_fine, Else-u16_at-least, Else-u8_at-gt1}

rising : (c : Else-u16_at-least) → leb c.args.least (requirement_in c.args.part.now).number ≡ true
unfolding requirement_in
rising c = le-leb _ _ (rw c.u16_at.ensures.reply at c.if-u16_at-least.false)

directed : (c : Else-u8_at-gt1) → leb (number_at 1 3 c.args.part.now) 1 ≡ true
directed c = le-leb _ _ (rw c.u8_at.ensures.reply at c.if-u8_at-gt1.false)

tested : (c : After-region_set_fine) → set_fine (requirement_in c.args.part.now).set ≡
    c.region_set_fine.result
unfolding requirement_in
tested c = ap set_fine (sym c.u8_at-2.ensures.reply) ∙ sym c.region_set_fine.ensures

pub returns-then-u16_at-least : goal.returns-then-u16_at-least
unfolding requirement_in
returns-then-u16_at-least c = simp (lt-leb _ _ (rw c.u16_at.ensures.reply at c.if-u16_at-least.true))

pub returns-then-not-region_set_fine : goal.returns-then-not-region_set_fine
unfolding requirement_in
returns-then-not-region_set_fine c = simp (rising (goal.at.returns-then-not-region_set_fine c).Else-u16_at-least, directed (goal.at.returns-then-not-region_set_fine c).Else-u8_at-gt1, tested (goal.at.returns-then-not-region_set_fine c).After-region_set_fine ∙ c.if-not-region_set_fine.true)

pub returns : goal.returns
unfolding requirement_in
returns c = simp (
  rising (goal.at.returns c).Else-u16_at-least,
  directed (goal.at.returns c).Else-u8_at-gt1,
  tested (goal.at.returns c).After-region_set_fine ∙ c.if-not-region_set_fine.false,
) c.amounts_within.ensures
