-- What a record that was taken went through, whichever of its numbers fit: the writer's and the reader's judgement alike.
use mathlib.Core.Path.{◌≡◌}
use mathlib.Core.Bool.{Bool, true, not, ◌&&◌, ◌||◌}
use mathlib.Core.List.{List}
use Prim.Native.Nat.{ℕ, ◌≤◌}
use lib.Dec.{leb, ltb, eqb}
use lib.ListN.{length}
use borrow.Author.Tests.{leb-true, eqb-true}
use Rattle.integers.specs.Sums.{both}
use Rattle.rules.specs.declared.Refusal.TheVariants.{SettingsField, RequirementField, BytesFollow, UnitNotRising}
use Rattle.rules.specs.Quantities.{regions, measure_limit, amount_limit, residual_default_limit, power_limit, unit_default_limit}
use Rattle.rules.specs.Bytes.{number_at}
use Rattle.rules.specs.Refusals.{taken}
use Rattle.rules.specs.Book.{Settings, Region, Unit, Requirement}
use Rattle.rules.specs.SettingsRecord.{settings_in, settings_fine, settings_judged}
use Rattle.rules.specs.Fields.{spare_bits_zero, defaults_fine, sized}
use Rattle.rules.specs.FrequencyRecord.{RegionWidths, region_in, frequencies_fine, region_judged}
use Rattle.rules.specs.UnitRecord.{UnitWidths, unit_in, readings_fine, unit_judged}
use Rattle.rules.specs.RequirementRecord.{requirement_in, requirement_fine, requirement_judged}
use Rattle.laws.proofs.LimitsLaws.{passed, took}

-- one of two tests that hold; `search` finds it among several
pub first_of : (s t : Bool) → s && t ≡ true → s ≡ true
first_of s t e = (both s t e).0

pub second_of : (s t : Bool) → s && t ≡ true → t ≡ true
second_of s t e = (both s t e).1

-- ---- settings
pub record SettingsTaken (fit : Bool) (bs : List ℕ) (s : Settings) : Type 0 where
  pub fits : fit ≡ true
  pub is : settings_in bs ≡ s

pub settings_taken : (fit : Bool) (bs : List ℕ) (s : Settings) → settings_judged fit bs ≡ taken s → SettingsTaken fit bs s
settings_taken fit bs s e =
    let p = passed (fit && settings_fine (settings_in bs)) SettingsField _ s e in
    record { fits = (both fit (settings_fine (settings_in bs)) p.0).0; is = took p.1 }

-- ---- a frequency record
pub record RegionTaken (fit : RegionWidths) (position : ℕ) (bs : List ℕ) (r : Region) : Type 0 where
  pub fits : fit ≡ record { separation = true; amounts = true }
  pub placed : number_at 1 0 bs ≡ position
  pub separated : number_at 1 1 bs ≤ 1
  pub spare : number_at 1 11 bs ≤ 7
  pub is : region_in bs ≡ r

pub region_taken : (fit : RegionWidths) (position : ℕ) (bs : List ℕ) (r : Region) → region_judged fit position bs ≡ taken r → RegionTaken fit position bs r
region_taken fit position bs r e =
    let header = passed (fit.separation && (eqb (number_at 1 0 bs) position && leb (number_at 1 1 bs) 1)) _ _ r e in
    let quality = passed (spare_bits_zero 2 bs) _ _ r header.1 in
    let numbers = passed (fit.amounts && (sized measure_limit (region_in bs).before && leb (region_in bs).generation amount_limit)) _ _ r quality.1 in
    let defaults = passed (defaults_fine residual_default_limit (region_in bs).defaults) _ _ r numbers.1 in
    let values = passed (frequencies_fine (region_in bs)) _ _ r defaults.1 in
    let first = both fit.separation (eqb (number_at 1 0 bs) position && leb (number_at 1 1 bs) 1) header.0 in
    let named = both (eqb (number_at 1 0 bs) position) (leb (number_at 1 1 bs) 1) first.1 in
    let amounts = (both fit.amounts (sized measure_limit (region_in bs).before && leb (region_in bs).generation amount_limit) numbers.0).0 in
    record {
      fits = rw (first.0, amounts);
      placed = eqb-true _ _ named.0;
      separated = leb-true _ _ named.1;
      spare = leb-true _ _ quality.0;
      is = took values.1;
    }

-- ---- a unit record
pub record UnitTaken (fit : UnitWidths) (bs : List ℕ) (u : Unit) : Type 0 where
  pub fits : fit ≡ record { header = true; group = true; number = true }
  pub kind : number_at 1 3 bs ≤ 1
  pub spare : number_at 1 69 bs ≤ 7
  pub is : unit_in bs ≡ u

pub unit_taken : (fit : UnitWidths) (least : ℕ) (bs : List ℕ) (u : Unit) → unit_judged fit least bs ≡ taken u → UnitTaken fit bs u
unit_taken fit least bs u e =
    let read = unit_in bs in
    let kind_fine = ltb read.region regions && leb (number_at 1 3 bs) 1 in
    let fine = kind_fine && sized power_limit read.start && sized power_limit read.end in
    let header = passed (fit.header && fine) _ _ u e in
    let defaults = passed (defaults_fine unit_default_limit read.defaults) _ _ u header.1 in
    let quality = passed (fit.group && spare_bits_zero 60 bs) _ _ u defaults.1 in
    let values = passed (readings_fine read) _ _ u quality.1 in
    let rises = passed (fit.number && leb least read.number) UnitNotRising _ u values.1 in
    let first = both fit.header fine header.0 in
    let second = both fit.group (spare_bits_zero 60 bs) quality.0 in
    let start = (both (kind_fine && sized power_limit read.start) (sized power_limit read.end) first.1).0 in
    let named = both (ltb read.region regions) (leb (number_at 1 3 bs) 1) (both kind_fine (sized power_limit read.start) start).0 in
    let third = (both fit.number (leb least read.number) rises.0).0 in
    record {
      fits = rw (first.0, second.0, third);
      kind = leb-true _ _ named.1;
      spare = leb-true _ _ second.1;
      is = took rises.1;
    }

-- ---- a requirement record
pub record RequirementTaken (fit : Bool) (last : Bool) (bs : List ℕ) (q : Requirement) : Type 0 where
  pub fits : fit ≡ true
  pub direction : number_at 1 3 bs ≤ 1
  pub ends : not last || eqb (length bs) 24 ≡ true
  pub is : requirement_in bs ≡ q

pub requirement_taken : (fit : Bool) (least : ℕ) (last : Bool) (bs : List ℕ) (q : Requirement) → requirement_judged fit least last bs ≡ taken q →
    RequirementTaken fit last bs q
requirement_taken fit least last bs q e =
    let read = requirement_in bs in
    let rises = leb least read.number && leb (number_at 1 3 bs) 1 in
    let fields = passed (fit && (rises && requirement_fine read)) RequirementField _ q e in
    let ends = passed (not last || eqb (length bs) 24) BytesFollow _ q fields.1 in
    let fine = both fit (rises && requirement_fine read) fields.0 in
    let named = both (leb least read.number) (leb (number_at 1 3 bs) 1) (both rises (requirement_fine read) fine.1).0 in
    record { fits = fine.0; direction = leb-true _ _ named.1; ends = ends.0; is = took ends.1 }
