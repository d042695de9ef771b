-- Laws of the tally: what a tally in range keeps to, how many units were taken at a unit's turn, and the place of a record in its body.
use mathlib.Core.Path.{◌≡◌, refl, sym, ◌∙◌}
use mathlib.Core.Bool.{Bool, true, false, ◌&&◌, ◌||◌}
use Prim.Native.Nat.{ℕ, suc, ◌+◌, ◌-◌, ◌≤◌, ◌<◌}
use native.Mathlib.Omega.{arith}
use lib.Dec.{leb, ltb}
use borrow.Author.Tests.{leb-true, ltb-true, ltb-false, lt-ltb, le-ltb, ne_eqb}
use Rattle.integers.specs.Sums.{both}
use Rattle.rules.specs.Quantities.{regions, most_units, most_requirements}
use Rattle.laws.proofs.Limits.{SettingsFit}
use Rattle.interval.specs.declared.Tally.{Tally}
use Rattle.interval.specs.Tally.{
  settings_of,
  before_units,
  units_end,
  book_end,
  most_records,
  record_place,
  settings_kept,
  in_range,
  frequency_turn,
  requirement_turn,
}

pub record InRange (t : Tally) : Type 0 where
  pub units : t.units ≤ most_units
  pub some : 1 ≤ t.requirements
  pub requirements : t.requirements ≤ most_requirements
  pub records : t.records ≤ book_end t
  pub least : t.least ≤ 65_536
  pub kept : settings_kept t ≡ true

pub ranged : (t : Tally) → in_range t ≡ true → InRange t
unfolding in_range
ranged t e =
    let units = both _ _ e in
    let some = both _ _ units.1 in
    let requirements = both _ _ some.1 in
    let records = both _ _ requirements.1 in
    let least = both _ _ records.1 in
    record {
      units = leb-true _ _ units.0;
      some = leb-true _ _ some.0;
      requirements = leb-true _ _ requirements.0;
      records = leb-true _ _ records.0;
      least = leb-true _ _ least.0;
      kept = least.1;
    }

-- once the settings are taken they keep their rule
pub settings_stay : (t : Tally) → in_range t ≡ true → 1 ≤ t.records → SettingsFit (settings_of t)
settings_stay t e h =
    let fine = either (ne_eqb t.records 0 (λ z. omega arith)) (ranged t e).kept in
    let percent = both _ _ fine in
    let limit = both _ _ percent.0 in
    let smoothing = both _ _ limit.0 in
    record {
      smoothing_least = leb-true _ _ smoothing.0;
      smoothing = leb-true _ _ smoothing.1;
      limit = leb-true _ _ limit.1;
      percent = leb-true _ _ percent.1;
    }
  where
    either : {a b : Bool} → a ≡ false → (a || b) ≡ true → b ≡ true
    either {a} {b} none e = rw none at e

-- fewer than so many past a start
pub below_past : (start n k : ℕ) → start ≤ n → ltb (n - start) k ≡ ltb n (start + k)
below_past start n k h = go (ltb (n - start) k) refl
  where
    go : (x : Bool) → ltb (n - start) k ≡ x → ltb (n - start) k ≡ ltb n (start + k)
    go true e = e ∙ sym (lt-ltb n (start + k) (omega (arith, ltb-true (n - start) k e)))
    go false e = e ∙ sym (le-ltb n (start + k) (omega (arith, ltb-false (n - start) k e)))

-- ---- at a turn
pub record RequirementTurn (t : Tally) : Type 0 where
  pub few : t.records < most_records
  pub units : t.units ≤ most_units
  pub requirements : t.requirements ≤ most_requirements

pub requirement_comes : (t : Tally) → (in_range t && requirement_turn t) ≡ true → RequirementTurn t
requirement_comes t e =
    let turn = both (in_range t) (requirement_turn t) e in
    let h = ranged t turn.0 in
    let before = ltb-true t.records (book_end t) (both (leb (units_end t) t.records) (ltb t.records (book_end t)) turn.1).1 in
    record { few = omega arith; units = h.units; requirements = h.requirements }

pub record FrequencyTurn (t : Tally) : Type 0 where
  pub some : 1 ≤ t.records
  pub few : t.records < before_units
  pub settings : SettingsFit (settings_of t)

pub frequency_comes : (t : Tally) → (in_range t && frequency_turn t) ≡ true → FrequencyTurn t
frequency_comes t e =
    let turn = both (in_range t) (frequency_turn t) e in
    let ends = both (leb 1 t.records) (ltb t.records before_units) turn.1 in
    let some = leb-true _ _ ends.0 in
    record { some = some; few = ltb-true _ _ ends.1; settings = settings_stay t turn.0 some }

-- ---- the place of record m in its body
module _ (units m : ℕ) where
  pub settings_placed : m ≡ 0 → record_place units m ≡ 1
  unfolding record_place
  settings_placed e = rw e

  pub frequency_placed : (i : ℕ) → m ≡ suc i → i < regions → record_place units m ≡ suc i
  unfolding record_place
  frequency_placed i e h = rw (le-ltb m 1 (omega arith), lt-ltb m before_units (omega arith)) e

  pub unit_placed : (i : ℕ) → m ≡ before_units + i → i < units → record_place units m ≡ 1 + i
  unfolding record_place
  unit_placed i e h =
      rw (le-ltb m 1 (omega arith), le-ltb m before_units (omega arith), lt-ltb (m - before_units) units (omega arith)) (omega arith)

  pub requirement_placed : (j : ℕ) → m ≡ before_units + units + j → record_place units m ≡ 1 + j
  unfolding record_place
  requirement_placed j e =
      rw (le-ltb m 1 (omega arith), le-ltb m before_units (omega arith), le-ltb (m - before_units) units (omega arith)) (omega arith)
