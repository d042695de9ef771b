-- The length, the mark and the two fields after it in their order; then the entries answer.
use mathlib.Core.Path.{◌≡◌, sym, ◌∙◌}
use mathlib.Core.Bool.{true}
use lib.Dec.{eqb, leb}
use lib.ListN.{length}
use borrow.Author.Tests.{eq-eqb, ne_eqb, le-leb, lt-leb}
use Rattle.rules.specs.Bytes.{number_at}
use Rattle.rules.specs.Contents.{contents, contents_size, mark}
use Rattle.book.specs.Contents.{entries}
use Rattle.book.proofs.contents.read_contents.Goals as goal
use Rattle.book.proofs.contents.read_contents.Goals.{Else-part-lt56, Else-u16_at-ne0, Else-u16_at-ne4, Else-u32_at-ne-MARK}

long_enough : (c : Else-part-lt56) → leb contents_size (length c.args.part.now) ≡ true
long_enough c = le-leb _ _ c.if-part-lt56.false

marked : (c : Else-u32_at-ne-MARK) → eqb (number_at 4 0 c.args.part.now) mark ≡ true
marked c = eq-eqb _ _ (sym c.u32_at.ensures.reply ∙ c.if-u32_at-ne-MARK.false)

four_entries : (c : Else-u16_at-ne4) → eqb (number_at 2 4 c.args.part.now) 4 ≡ true
four_entries c = eq-eqb _ _ (sym c.u16_at.ensures.reply ∙ c.if-u16_at-ne4.false)

zero_field : (c : Else-u16_at-ne0) → eqb (number_at 2 6 c.args.part.now) 0 ≡ true
zero_field c = eq-eqb _ _ (sym c.u16_at-2.ensures.reply ∙ c.if-u16_at-ne0.false)

pub returns-then-part-lt56 : goal.returns-then-part-lt56
unfolding contents
returns-then-part-lt56 c = record { reply = simp (lt-leb _ _ c.if-part-lt56.true) }

pub returns-then-u32_at-ne-MARK : goal.returns-then-u32_at-ne-MARK
unfolding contents
returns-then-u32_at-ne-MARK c = record { reply = simp (long_enough (goal.at.returns-then-u32_at-ne-MARK c).Else-part-lt56, ne_eqb _ _ (λ e. c.if-u32_at-ne-MARK.true (c.u32_at.ensures.reply ∙ e))) }

pub returns-then-u16_at-ne4 : goal.returns-then-u16_at-ne4
unfolding contents
returns-then-u16_at-ne4 c = record {
  reply = simp (
    long_enough (goal.at.returns-then-u16_at-ne4 c).Else-part-lt56,
    marked (goal.at.returns-then-u16_at-ne4 c).Else-u32_at-ne-MARK,
    ne_eqb _ _ (λ e. c.if-u16_at-ne4.true (c.u16_at.ensures.reply ∙ e)),
  );
}

pub returns-then-u16_at-ne0 : goal.returns-then-u16_at-ne0
unfolding contents
returns-then-u16_at-ne0 c = record {
  reply = simp (
    long_enough (goal.at.returns-then-u16_at-ne0 c).Else-part-lt56,
    marked (goal.at.returns-then-u16_at-ne0 c).Else-u32_at-ne-MARK,
    four_entries (goal.at.returns-then-u16_at-ne0 c).Else-u16_at-ne4,
    ne_eqb _ _ (λ e. c.if-u16_at-ne0.true (c.u16_at-2.ensures.reply ∙ e)),
  );
}

pub returns : goal.returns
unfolding contents entries
returns c = record {
  reply = simp (
    long_enough (goal.at.returns c).Else-part-lt56,
    marked (goal.at.returns c).Else-u32_at-ne-MARK,
    four_entries (goal.at.returns c).Else-u16_at-ne4,
    zero_field (goal.at.returns c).Else-u16_at-ne0,
  ) c.read_entries.ensures;
}
