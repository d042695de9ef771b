-- How the call's promise is met: by the record that is read past the tests, or by the first refusal.
use Rattle.std.specs.Prelude.{Result, Ok, Err}
use Rattle.answer.specs.declared.Answer.{Answer}
use mathlib.Core.Path.{◌≡◌, sym, ◌∙◌, ap}
use mathlib.Core.Bool.{true, false, not, ◌&&◌, ◌||◌}
use mathlib.Core.List.{List}
use Prim.Native.Nat.{ℕ, ◌≤◌}
use native.Mathlib.Omega.{arith}
use lib.Dec.{eqb, leb}
use lib.ListN.{length}
use borrow.Author.Tests.{leb-true}
use Rattle.integers.specs.Sums.{both}
use Rattle.rules.specs.declared.Refusal.{Refusal}
use Rattle.rules.specs.declared.Refusal.TheVariants.{EndsEarly, BytesFollow, RequirementField}
use Rattle.rules.specs.Quantities.{price_limit, cost_limit, amount_limit}
use Rattle.rules.specs.Refusals.{Reply, taken, refused}
use Rattle.rules.specs.Bytes.{number_at}
use Rattle.rules.specs.Book.{Requirement}
use Rattle.rules.specs.Contents.{requirement_size}
use Rattle.rules.specs.RequirementRecord.{requirement_in, set_fine, requirement_fine, requirement_record}
use Rattle.laws.proofs.LimitsLaws.{passed, took}
use Rattle.interval.specs.declared.Tally.{Tally}
use Rattle.interval.specs.Lent.{Lent, lent_answer}
use Rattle.interval.specs.Tally.{units_end, in_range, answer_turn}
use Rattle.interval.proofs.TallyLaws.{settings_stay}
use Rattle.book.specs.declared.RequirementFields.{RequirementFields}
use Rattle.book.specs.Requirement.{requirement_of, requirement_answer}
use Rattle.answer.specs.Promises.{Columns, columns_long, answer_reply, AnswerPromise}
use Rattle.answer.specs.Tested.{tested_requirement}
use Rattle.answer.proofs.TestedLaws.{Tested, tested_reply}
use Rattle.answer.proofs.RosterLaws.{set_five}
use Rattle.answer.specs.Worked.{required, Passed, WorkedOut}

-- ---- the record
-- a requirement that is read is the record's
pub was_read : (y : Reply Requirement) (f : RequirementFields) → Ok f ≡ requirement_answer y → y ≡ taken (required f)
was_read (taken q) f e =
    let same : f ≡ requirement_of q = cc in
    ap (λ (g : RequirementFields). taken (required g)) (sym same)
was_read (refused x) f e = let z : ◌≡◌ {A = ℕ} 0 1 = cc in absurd (omega arith)

pub not_read : (y : Reply Requirement) (x : Refusal) → Err x ≡ requirement_answer y → y ≡ refused x
not_read (taken q) x e = let z : ◌≡◌ {A = ℕ} 0 1 = cc in absurd (omega arith)
not_read (refused y) x e = cc

-- and keeps its rules
pub record FieldsFine (q : Requirement) : Type 0 where
  pub set : set_fine q.set ≡ true
  pub price : q.price ≤ price_limit
  pub cost : q.cost ≤ cost_limit
  pub enabled : q.enabled ≤ amount_limit

fine_fields : (q : Requirement) → requirement_fine q ≡ true → FieldsFine q
fine_fields q e =
    let a = both (set_fine q.set && leb q.price price_limit && leb q.cost cost_limit && leb q.enabled amount_limit) (leb q.used amount_limit)
    e in
    let b = both (set_fine q.set && leb q.price price_limit && leb q.cost cost_limit) (leb q.enabled amount_limit) a.0 in
    let c = both (set_fine q.set && leb q.price price_limit) (leb q.cost cost_limit) b.0 in
    let d = both (set_fine q.set) (leb q.price price_limit) c.0 in
    record { set = d.0; price = leb-true _ _ d.1; cost = leb-true _ _ c.1; enabled = leb-true _ _ b.1 }

pub record_fine : (bs : List ℕ) (q : Requirement) → requirement_record 0 false bs ≡ taken q → FieldsFine q
unfolding requirement_record
record_fine bs q e =
    let n = (requirement_in bs).number in
    let direction = leb (number_at 1 3 bs) 1 in
    let whole = passed (leb requirement_size (length bs)) EndsEarly _ q e in
    let fields = passed (leb 0 n && direction && requirement_fine (requirement_in bs)) RequirementField _ q whole.1 in
    let ends = passed (not false || eqb (length bs) requirement_size) BytesFollow _ q fields.1 in
    let fine = both (leb 0 n && direction) (requirement_fine (requirement_in bs)) fields.0 in
    rw (took ends.1) at (fine_fields (requirement_in bs) fine.1)

-- so past the tests it can be answered
pub past_tests :
    {t : Tally} (part : List ℕ) {f : RequirementFields} {l : Lent} {c : Columns} → Tested t l (columns_long t.units c) →
    requirement_record 0 false part ≡ taken (required f) → Passed t f l c
past_tests {t} part {f} h r =
    let turn = both (in_range t) (answer_turn t) h.turn in
    let begun : 1 ≤ t.records = omega (arith, leb-true (units_end t) t.records turn.1) in
    let fields = record_fine part (required f) r in
    record {
      percent = (settings_stay t turn.0 begun).percent;
      set = set_five f.set fields.set;
      price = fields.price;
      cost = fields.cost;
      enabled = fields.enabled;
      long = h.lists;
      columns = h.columns;
      fine = h.fine;
    }

-- ---- the promise, whatever else is lent
abbrev with_rest : Lent → Lent → Lent
with_rest rest l = lent_answer rest l.measures l.sums l.figures l.homes l.rows

module _ (t : Tally) (part : List ℕ) (l : Lent) (old : Columns) (rest : Lent) where
  told : {y : Reply Requirement} → tested_requirement t part l (columns_long t.units old) ≡ y → answer_reply t part (with_rest rest l) old ≡ y
  told e = tested_reply t part rest l old ∙ e

  pub refuses :
      (x : Refusal) → tested_requirement t part l (columns_long t.units old) ≡ refused x → AnswerPromise t part (with_rest rest l) old (Err x) old
  refuses x e = record { reply = rw (told e); written = rw (told e) }

  pub gives :
      (f : RequirementFields) {a : Result Answer Refusal} {new : Columns} → tested_requirement t part l (columns_long t.units old) ≡ taken (required f) →
      WorkedOut t f (with_rest rest l) old a new → AnswerPromise t part (with_rest rest l) old a new
  gives f e w = record { reply = rw (told e) w.reply; written = rw (told e) w.written }
