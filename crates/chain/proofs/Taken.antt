-- What a record or a call that was taken went through: the record is the one in its bytes, and every test of the call held.
use mathlib.Core.Path.{◌≡◌, ◌∙◌, subst}
use mathlib.Core.Bool.{Bool, true, not, ◌&&◌, ◌||◌}
use mathlib.Core.List.{List}
use Prim.Native.Nat.{ℕ, ◌+◌, ◌*◌, ◌≤◌, ◌<◌}
use lib.Dec.{eqb, leb, ltb}
use lib.ListN.{length}
use borrow.Author.Tests.{leb-true, ltb-true, eqb-true}
use Rattle.integers.specs.Sums.{both}
use Rattle.rules.specs.declared.Refusal.TheVariants.{
  EndsEarly,
  WrongMark,
  WrongTable,
  WrongCount,
  BytesFollow,
  SettingsField,
  UnitNotRising,
  RequirementField,
  WrongState,
  TooShort,
  WrongGroup,
}
use Rattle.rules.specs.Quantities.{
  regions,
  most_units,
  most_requirements,
  measure_limit,
  power_limit,
  amount_limit,
  unit_default_limit,
  residual_default_limit,
}
use Rattle.rules.specs.Bytes.{number_at}
use Rattle.rules.specs.Refusals.{Reply, taken, ◌>>=◌}
use Rattle.rules.specs.Groups.{group_fine, in_its_group}
use Rattle.rules.specs.Book.{Settings, Region, Unit, Requirement}
use Rattle.rules.specs.Contents.{Counts, contents, contents_size, mark, entry, items, settings_size, frequency_size, unit_size, requirement_size}
use Rattle.rules.specs.SettingsRecord.{settings, settings_in, settings_fine}
use Rattle.rules.specs.Fields.{spare_bits_zero, defaults_fine, sized}
use Rattle.rules.specs.FrequencyRecord.{region_in, frequencies_fine, frequency_record}
use Rattle.rules.specs.UnitRecord.{unit_in, readings_fine, unit_record}
use Rattle.rules.specs.RequirementRecord.{requirement_in, requirement_fine, requirement_record}
use Rattle.laws.proofs.LimitsLaws.{passed, took, went_on}
use Rattle.interval.specs.declared.Tally.{Tally}
use Rattle.interval.specs.Tally.{in_range, settings_turn, frequency_turn, unit_turn, requirement_turn, units_taken, before_units, units_end, book_end}
use Rattle.interval.specs.Lent.{Lent, regions_long, of_interval, named_region, named_group, series_in_range, plant_in_range, group_fits}
use Rattle.interval.specs.Calls.{settings_reply, frequency_reply, unit_long, in_lent_group, unit_reply, requirement_reply}
use Rattle.chain.proofs.Long.{passes_regions, passes_long}
use Rattle.chain.specs.Taken.{CountsFit, FrequencyTaken, UnitTaken, counts_in}

entry_passed : {A : Type 0} (place kind least most start size : ℕ) (bs : List ℕ) (rest : Reply A) (a : A) →
    entry place kind least most start size bs rest ≡ taken a → (least ≤ items place bs) × (items place bs ≤ most) × (rest ≡ taken a)
entry_passed place kind least most start size bs rest a e =
    let named = passed (eqb (number_at 2 place bs) kind) WrongTable _ a e in
    let counts = passed (leb least (items place bs) && leb (items place bs) most) WrongCount _ a named.1 in
    let starts = passed (eqb (number_at 4 (place + 4) bs) start) WrongTable _ a counts.1 in
    let ends = passed (eqb (number_at 4 (place + 8) bs) (items place bs * size)) WrongTable _ a starts.1 in
    let limits = both (leb least (items place bs)) (leb (items place bs) most) counts.0 in
    (leb-true _ _ limits.0, leb-true _ _ limits.1, ends.1)

pub contents_is : (bs : List ℕ) (c : Counts) → contents bs ≡ taken c → (counts_in bs ≡ c) × CountsFit c
unfolding contents
contents_is bs c e =
    let whole = passed (leb contents_size (length bs)) EndsEarly _ c e in
    let marked = passed (eqb (number_at 4 0 bs) mark) WrongMark _ c whole.1 in
    let entries = passed (eqb (number_at 2 4 bs) 4) WrongTable _ c marked.1 in
    let header = passed (eqb (number_at 2 6 bs) 0) WrongTable _ c entries.1 in
    let settings = (entry_passed 8 1 1 1 _ _ bs _ c header.1).2 in
    let frequency = (entry_passed 20 2 5 5 _ _ bs _ c settings).2 in
    let unit = entry_passed 32 3 0 most_units _ _ bs _ c frequency in
    let requirement = entry_passed 44 4 1 most_requirements _ _ bs _ c unit.2 in
    let is : counts_in bs ≡ c = took requirement.2 in
    (is, subst CountsFit is (record { units = unit.1; some = requirement.0; requirements = requirement.1 }))

pub settings_is : (bs : List ℕ) (s : Settings) → settings bs ≡ taken s → (settings_in bs ≡ s) × (settings_fine (settings_in bs) ≡ true)
unfolding settings
settings_is bs s e =
    let fine = passed (settings_fine (settings_in bs)) SettingsField _ s (passed (leb settings_size (length bs)) EndsEarly _ s e).1 in
    (took fine.1, fine.0)

pub region_is : (position : ℕ) (bs : List ℕ) (r : Region) → frequency_record position bs ≡ taken r → region_in bs ≡ r
unfolding frequency_record
region_is position bs r e =
    let whole = passed (leb frequency_size (length bs)) EndsEarly _ r e in
    let header = passed (eqb (number_at 1 0 bs) position && leb (number_at 1 1 bs) 1) _ _ r whole.1 in
    let quality = passed (spare_bits_zero 2 bs) _ _ r header.1 in
    let numbers = passed (sized measure_limit (region_in bs).before && leb (region_in bs).generation amount_limit) _ _ r quality.1 in
    let defaults = passed (defaults_fine residual_default_limit (region_in bs).defaults) _ _ r numbers.1 in
    let values = passed (frequencies_fine (region_in bs)) _ _ r defaults.1 in
    took values.1

pub unit_is : (least : ℕ) (bs : List ℕ) (u : Unit) → unit_record least bs ≡ taken u → unit_in bs ≡ u
unfolding unit_record
unit_is least bs u e =
    let whole = passed (leb unit_size (length bs)) EndsEarly _ u e in
    let header = passed (ltb (unit_in bs).region regions && leb (number_at 1 3 bs) 1 && sized power_limit (unit_in bs).start
    && sized power_limit (unit_in bs).end) _ _ u whole.1 in
    let defaults = passed (defaults_fine unit_default_limit (unit_in bs).defaults) _ _ u header.1 in
    let quality = passed (spare_bits_zero 60 bs) _ _ u defaults.1 in
    let values = passed (readings_fine (unit_in bs)) _ _ u quality.1 in
    let rises = passed (leb least (unit_in bs).number) UnitNotRising _ u values.1 in
    took rises.1

pub requirement_is : (least : ℕ) (last : Bool) (bs : List ℕ) (q : Requirement) → requirement_record least last bs ≡ taken q → requirement_in bs ≡ q
unfolding requirement_record
requirement_is least last bs q e =
    let whole = passed (leb requirement_size (length bs)) EndsEarly _ q e in
    let fields = passed (leb least (requirement_in bs).number && leb (number_at 1 3 bs) 1 && requirement_fine (requirement_in bs)) RequirementField _ q
    whole.1 in
    let last = passed (not last || eqb (length bs) requirement_size) BytesFollow _ q fields.1 in
    took last.1

-- ---- a unit behind others: its record is taken, and it may stand in its group
pub behind_taken : (before : List Unit) (m : Reply Unit) (u : Unit) → m ≡ taken u → group_fine before u ≡ true → (m >>= in_its_group before) ≡ taken u
behind_taken before m u e fine = rw (e, fine)

-- ---- the tests of each call
pub settings_passed : (t : Tally) (p : List ℕ) (s : Settings) → settings_reply t p ≡ taken s → (t.records ≡ 0) × (settings p ≡ taken s)
unfolding settings_reply
settings_passed t p s e =
    let turn = passed (in_range t && settings_turn t) WrongState _ s e in
    (eqb-true _ _ (both (in_range t) (settings_turn t) turn.0).1, turn.1)

pub frequency_passed : (t : Tally) (p : List ℕ) (l : Lent) (x : Region) → frequency_reply t p l ≡ taken x → FrequencyTaken t p l x
unfolding frequency_reply
frequency_passed t p l x e =
    let in_turn = passed (in_range t && frequency_turn t) WrongState _ x e in
    let turn = both (leb 1 t.records) (ltb t.records before_units) (both (in_range t) (frequency_turn t) in_turn.0).1 in
    let long = passed (regions_long l) TooShort _ x in_turn.1 in
    record { first = leb-true _ _ turn.0; last = ltb-true _ _ turn.1; long = passes_regions long.0; record_taken = long.1 }

pub unit_passed : (t : Tally) (p : List ℕ) (l : Lent) (u : Unit) → unit_reply t p l ≡ taken u → UnitTaken t p l u
unfolding unit_reply
unit_passed t p l u e =
    let in_turn = passed (in_range t && unit_turn t) WrongState _ u e in
    let turn = both (leb before_units t.records) (ltb t.records (units_end t)) (both (in_range t) (unit_turn t) in_turn.0).1 in
    let long = passed (unit_long (units_taken t + 1) l) TooShort _ u in_turn.1 in
    let lent = passed (of_interval t.interval l.figures
    && (series_in_range (named_region p) (units_taken t) l && plant_in_range (named_group p) (units_taken t) l)) WrongState _ u long.1 in
    let read = went_on (unit_record t.least p) (in_lent_group (units_taken t) l) u lent.1 in
    let group = passed (group_fits (units_taken t) read.0 l) WrongGroup (taken read.0) u read.2 in
    record {
      first = leb-true _ _ turn.0;
      last = ltb-true _ _ turn.1;
      long = passes_long long.0;
      record_taken = read.1 ∙ group.1;
      group = subst (λ (u : Unit). group_fits (units_taken t) u l ≡ true) (took group.1) group.0;
    }

pub requirement_passed : (t : Tally) (p : List ℕ) (q : Requirement) → requirement_reply t p ≡ taken q →
    (units_end t ≤ t.records) × (t.records < book_end t) × (requirement_record t.least (eqb (t.records + 1) (book_end t)) p ≡ taken q)
unfolding requirement_reply
requirement_passed t p q e =
    let in_turn = passed (in_range t && requirement_turn t) WrongState _ q e in
    let turn = both (leb (units_end t) t.records) (ltb t.records (book_end t)) (both (in_range t) (requirement_turn t) in_turn.0).1 in
    (leb-true _ _ turn.0, ltb-true _ _ turn.1, in_turn.1)
