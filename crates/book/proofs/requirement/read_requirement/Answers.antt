-- Length, fields, and what follows the last, in this order.
use Rattle.std.specs.Prelude.{Ok}
use mathlib.Core.Path.{◌≡◌, sym, ◌∙◌, ap}
use mathlib.Core.Bool.{true}
use mathlib.Core.Bool.{not, ◌&&◌, ◌||◌}
use lib.Dec.{leb, eqb}
use lib.ListN.{length}
use borrow.Author.Tests.{le-leb, lt-leb}
use Rattle.rules.specs.Bytes.{number_at}
use Rattle.rules.specs.Contents.{requirement_size}
use Rattle.rules.specs.RequirementRecord.{requirement_in, requirement_fine, requirement_record}
use Rattle.book.proofs.requirement.read_requirement.Goals as goal
use Rattle.book.proofs.requirement.read_requirement.Goals.{Else-not-ends_with_the_book, Else-not-requirement_fields_fine, Else-part-lt24}

long_enough : (c : Else-part-lt24) → leb requirement_size (length c.args.part.now) ≡ true
long_enough c = le-leb _ _ c.if-part-lt24.false

tested : (c : Else-not-requirement_fields_fine) → (leb c.args.least (requirement_in c.args.part.now).number
    && leb (number_at 1 3 c.args.part.now) 1
    && requirement_fine (requirement_in c.args.part.now)) ≡ true
tested c = sym c.requirement_fields_fine.ensures ∙ c.if-not-requirement_fields_fine.false

ended : (c : Else-not-ends_with_the_book) → (not c.args.last || eqb
    (length c.args.part.now) requirement_size) ≡ true
ended c = sym c.ends_with_the_book.ensures ∙ c.if-not-ends_with_the_book.false

pub returns-then-part-lt24 : goal.returns-then-part-lt24
unfolding requirement_record
returns-then-part-lt24 c = record { reply = simp (lt-leb _ _ c.if-part-lt24.true) }

pub returns-then-not-requirement_fields_fine : goal.returns-then-not-requirement_fields_fine
unfolding requirement_record
returns-then-not-requirement_fields_fine c = record { reply = simp (long_enough (goal.at.returns-then-not-requirement_fields_fine c).Else-part-lt24, sym c.requirement_fields_fine.ensures ∙ c.if-not-requirement_fields_fine.true) }

pub returns-then-not-ends_with_the_book : goal.returns-then-not-ends_with_the_book
unfolding requirement_record
returns-then-not-ends_with_the_book c = record {
  reply = simp (
    long_enough (goal.at.returns-then-not-ends_with_the_book c).Else-part-lt24,
    tested (goal.at.returns-then-not-ends_with_the_book c).Else-not-requirement_fields_fine,
    sym c.ends_with_the_book.ensures
        ∙ c.if-not-ends_with_the_book.true,
  );
}

pub returns : goal.returns
unfolding requirement_record
returns c = record {
  reply = simp (long_enough (goal.at.returns c).Else-part-lt24, tested (goal.at.returns c).Else-not-requirement_fields_fine, ended (goal.at.returns c).Else-not-ends_with_the_book)
      (ap Ok c.requirement_fields.ensures);
}
