-- Laws of the definitions in specs/Tested.antt.
use mathlib.Core.Path.{◌≡◌, refl}
use mathlib.Core.Bool.{Bool, true, false, ◌&&◌}
use mathlib.Core.List.{List}
use Prim.Native.Nat.{ℕ, ◌≤◌}
use Rattle.integers.specs.Sums.{both}
use Rattle.rules.specs.declared.Refusal.TheVariants.{WrongState, TooShort}
use Rattle.rules.specs.Quantities.{most_units}
use Rattle.rules.specs.Refusals.{taken}
use Rattle.rules.specs.Book.{Requirement}
use Rattle.rules.specs.RequirementRecord.{requirement_record}
use Rattle.laws.proofs.LimitsLaws.{passed}
use Rattle.interval.specs.declared.Tally.{Tally}
use Rattle.interval.specs.Tally.{in_range, answer_turn}
use Rattle.interval.specs.Lent.{Lent, lent_answer, regions_long, rows_long}
use Rattle.interval.proofs.TallyLaws.{ranged}
use Rattle.kept.specs.Range.{series_fine, figures_fine, rows_fine, kept_fine}
use Rattle.answer.specs.Lent.{Long}
use Rattle.answer.proofs.LentLaws.{long_means}
use Rattle.answer.specs.Promises.{Columns, columns_long, answer_reply}
use Rattle.answer.specs.Tested.{tested_requirement}

-- ---- what the tests show
pub record Tested (t : Tally) (l : Lent) (long : Bool) : Type 0 where
  pub turn : (in_range t && answer_turn t) ≡ true
  pub lists : Long t.units l
  pub columns : long ≡ true
  pub fine : kept_fine t l ≡ true

pub units_few : (t : Tally) → (in_range t && answer_turn t) ≡ true → t.units ≤ most_units
units_few t e = (ranged t (both (in_range t) (answer_turn t) e).0).units

pub lent_long : (t : Tally) (l : Lent) → (in_range t && answer_turn t) ≡ true → (regions_long l && rows_long t.units l) ≡ true → Long t.units l
lent_long t l e f = long_means t.units l (units_few t e) f

-- a requirement that is read has passed them all
pub tests_passed :
    (t : Tally) (part : List ℕ) (l : Lent) (long : Bool) {q : Requirement} → tested_requirement t part l long ≡ taken q →
    Tested t l long × (requirement_record 0 false part ≡ taken q)
unfolding tested_requirement
tests_passed t part l long {q} h =
    let turn = passed (in_range t && answer_turn t) WrongState _ q h in
    let lists = passed ((regions_long l && rows_long t.units l) && long) TooShort _ q turn.1 in
    let fine = passed (kept_fine t l) WrongState _ q lists.1 in
    let each = both (regions_long l && rows_long t.units l) long lists.0 in
    (record { turn = turn.0; lists = lent_long t l turn.0 each.0; columns = each.1; fine = fine.0 }, fine.1)

-- the reply of the promise, whatever else is lent: neither the roster's numbers nor the percent are read by the tests
pub tested_reply :
    (t : Tally) (part : List ℕ) (rest : Lent) (l : Lent) (c : Columns) →
    answer_reply t part (lent_answer rest l.measures l.sums l.figures l.homes l.rows) c ≡ tested_requirement t part l (columns_long t.units c)
unfolding answer_reply tested_requirement series_fine figures_fine rows_fine
tested_reply t part rest l c = refl
