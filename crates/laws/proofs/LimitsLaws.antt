-- Every record that a reader takes is within its limits, and so is every book: what the laws of the rules ask for, the format gives.
use mathlib.Core.Path.{◌≡◌, refl, ◌∙◌, ap, subst}
use mathlib.Core.Bool.{Bool, true, false, not, ◌&&◌, ◌||◌, false≢true}
use mathlib.Core.List.{List, [], ◌∷◌}
use Prim.Native.Nat.{ℕ, zero, suc, ◌+◌, ◌*◌, ◌≤◌, ◌<◌}
use native.Mathlib.Omega.{arith}
use lib.Dec.{leb, ltb, eqb}
use lib.IntN.{ℤ, pos, neg_ℤ, nat_abs, ◌-ℤ◌}
use lib.ListN.{length, get_or, drop}
use lib.Signed.{le_z, ◌≤ℤ◌}
use borrow.Author.Tests.{leb-true, ltb-true}
use Rattle.integers.proofs.Pairs.{le!, v, neg, ◌⊖◌, le_in}
use Rattle.integers.specs.Bounds.{Within}
use Rattle.integers.proofs.Bounds.{within_both, within_wider}
use Rattle.integers.proofs.Tests.{leZ_true}
use Rattle.integers.specs.Sums.{both}
use Rattle.integers.proofs.Sums.{every_at, none_below}
use Rattle.integers.specs.Totals.{All}
use Rattle.rules.specs.declared.Direction.{Direction}
use Rattle.rules.specs.declared.Direction.TheVariants.{Raise, Lower}
use Rattle.rules.specs.declared.Refusal.TheVariants.{
  EndsEarly,
  WrongMark,
  WrongTable,
  WrongCount,
  BytesFollow,
  SettingsField,
  UnitNotRising,
  RequirementField,
  WrongGroup,
}
use Rattle.rules.specs.Bytes.{number_at}
use Rattle.rules.specs.Quantities.{
  points,
  regions,
  most_units,
  most_requirements,
  price_limit,
  cost_limit,
  amount_limit,
  nominal,
  lowest_frequency,
  highest_frequency,
  measure_limit,
  power_limit,
  unit_default_limit,
  residual_default_limit,
}
use Rattle.rules.specs.Refusals.{ReplyOf, Reply, taken, refused, at, unless, ◌>>=◌}
use Rattle.rules.specs.Book.{by, ByDirection, Settings, Defaults, Region, Unit, Requirement, Book, no_region}
use Rattle.rules.specs.Contents.{
  Counts,
  contents,
  contents_size,
  mark,
  entry,
  items,
  settings_size,
  frequency_start,
  frequency_size,
  unit_start,
  unit_size,
  requirement_start,
  requirement_size,
}
use Rattle.rules.specs.SettingsRecord.{settings, settings_in, settings_fine}
use Rattle.rules.specs.Fields.{good_at, spare_bits_zero, default_fine, three_fine, defaults_fine, sized}
use Rattle.rules.specs.FrequencyRecord.{region_in, frequency_fine, frequencies_fine, frequency_record}
use Rattle.rules.specs.UnitRecord.{unit_in, reading_fine, readings_fine, unit_record}
use Rattle.rules.specs.RequirementRecord.{requirement_in, set_fine, requirement_fine, requirement_record}
use Rattle.rules.specs.Groups.{group_fine, in_its_group}
use Rattle.rules.specs.WholeBook.{frequency_body, unit_body, requirement_body, book}
use Rattle.laws.proofs.Limits.{SettingsFit, DefaultFits, DefaultsFit, RegionFits, UnitFits, RequirementFits, BookFits}

-- ---- what a reply that was taken went through
never : {R A B : Type 0} {r : R} {a : A} → ◌≡◌ {A = ReplyOf R A} (refused r) (taken a) → B
never {R} {A} {B} {r} {a} e = absurd (false≢true (ap is_taken e))
  where
    is_taken : ReplyOf R A → Bool
    is_taken (taken x) = true
    is_taken (refused x) = false

pub took : {R A : Type 0} {a b : A} → ◌≡◌ {A = ReplyOf R A} (taken a) (taken b) → a ≡ b
took e = cc

pub passed : {R A : Type 0} (test : Bool) (r : R) (rest : ReplyOf R A) (a : A) → unless test r rest ≡ taken a → (test ≡ true) × (rest ≡ taken a)
passed true r rest a e = (refl, e)
passed false r rest a e = never e

pub went_on : {R A B : Type 0} (m : ReplyOf R A) (f : A → ReplyOf R B) (b : B) → (m >>= f) ≡ taken b → (a : A) × (m ≡ taken a) × (f a ≡ taken b)
went_on (taken a) f b e = (a, refl, e)
went_on (refused r) f b e = never e

-- what stands at a place is taken there
pub there : {A : Type 0} (place : ℕ) (m : Reply A) (a : A) → at place m ≡ taken a → m ≡ taken a
there place (taken x) a e = ap taken (took e)
there place (refused r) a e = never e

-- ---- fields
default_fits : (limit : ℕ) (x : ℤ) → default_fine limit x ≡ true → DefaultFits limit x
default_fits limit x e =
    let t = both (le_z (neg_ℤ (pos limit)) x) (le_z x (pos 0)) e in
    let low : neg_ℤ (pos limit) ≤ℤ x = leZ_true t.0 in
    let high : x ≤ℤ pos 0 = leZ_true t.1 in
    record { size = within_both low (le! (v x) (v (pos limit)) (omega (arith, le_in high))); sign = high }

defaults_fit : (limit : ℕ) (f : ByDirection Defaults) → defaults_fine limit f ≡ true → (d : Direction) → DefaultsFit limit (by d f)
defaults_fit limit f e = side
  where
    three : (g : Defaults) → three_fine limit g ≡ true → DefaultsFit limit g
    three g h =
        let t = both (default_fine limit g.payment && default_fine limit g.used) (default_fine limit g.unused) h in
        let s = both (default_fine limit g.payment) (default_fine limit g.used) t.0 in
        record { payment = default_fits limit g.payment s.0; used = default_fits limit g.used s.1; unused = default_fits limit g.unused t.1 }

    side : (d : Direction) → DefaultsFit limit (by d f)
    side Raise = three f.raise (both (three_fine limit f.raise) (three_fine limit f.lower) e).0
    side Lower = three f.lower (both (three_fine limit f.raise) (three_fine limit f.lower) e).1

pub size_fits : (limit : ℕ) (x : ℤ) → sized limit x ≡ true → Within limit x
size_fits limit x e = record { size = leb-true (nat_abs x) limit e }

-- a frequency within its limits is within 5,000,000 of 50,000,000
pub frequency_fits : (f : ℕ) → lowest_frequency ≤ f → f ≤ highest_frequency → Within measure_limit (pos nominal -ℤ pos f)
frequency_fits f low high =
    within_both (le! (neg (v (pos measure_limit))) (v (pos nominal) ⊖ v (pos f)) (omega arith))
    (le! (v (pos nominal) ⊖ v (pos f)) (v (pos measure_limit)) (omega arith))

-- ---- settings
pub settings_fit : (bs : List ℕ) (s : Settings) → settings bs ≡ taken s → SettingsFit s
unfolding settings
settings_fit bs s e =
    let p = passed (settings_fine (settings_in bs)) SettingsField _ s (passed (leb settings_size (length bs)) EndsEarly _ s e).1 in
    subst SettingsFit (took p.1) (fit (settings_in bs) p.0)
  where
    fit : (s : Settings) → settings_fine s ≡ true → SettingsFit s
    fit s h =
        let t = both (leb 1 s.smoothing && leb s.smoothing 10_000 && leb s.limit points) (leb s.percent 100) h in
        let u = both (leb 1 s.smoothing && leb s.smoothing 10_000) (leb s.limit points) t.0 in
        let w = both (leb 1 s.smoothing) (leb s.smoothing 10_000) u.0 in
        record { smoothing_least = leb-true _ _ w.0; smoothing = leb-true _ _ w.1; limit = leb-true _ _ u.1; percent = leb-true _ _ t.1 }

-- ---- a frequency record
pub region_fits : (position : ℕ) (bs : List ℕ) (r : Region) → frequency_record position bs ≡ taken r → RegionFits r
unfolding frequency_record
region_fits position bs r e =
    let whole = passed (leb frequency_size (length bs)) EndsEarly _ r e in
    let header = passed (eqb (number_at 1 0 bs) position && leb (number_at 1 1 bs) 1) _ _ r whole.1 in
    let quality = passed (spare_bits_zero 2 bs) _ _ r header.1 in
    let numbers = passed (sized measure_limit (region_in bs).before && leb (region_in bs).generation amount_limit) _ _ r quality.1 in
    let defaults = passed (defaults_fine residual_default_limit (region_in bs).defaults) _ _ r numbers.1 in
    let values = passed (frequencies_fine (region_in bs)) _ _ r defaults.1 in
    subst RegionFits (took values.1) (fit (region_in bs) numbers.0 defaults.0 values.0)
  where
    fit : (r : Region) → sized measure_limit r.before && leb r.generation amount_limit ≡ true →
        defaults_fine residual_default_limit r.defaults ≡ true → frequencies_fine r ≡ true → RegionFits r
    fit r n d f =
        let t = both (sized measure_limit r.before) (leb r.generation amount_limit) n in
        record {
          before = size_fits measure_limit r.before t.0;
          generation = leb-true _ _ t.1;
          defaults = defaults_fit residual_default_limit r.defaults d;
          frequency = λ t l g. point (good_at r.quality t) (get_or r.frequency t 0) g (every_at points _ f t l);
        }
      where
        point : (good : Bool) (f : ℕ) → good ≡ true → frequency_fine good f ≡ true → Within measure_limit (pos nominal -ℤ pos f)
        point true f g h =
            let t = both (leb lowest_frequency f) (leb f highest_frequency) h in
            frequency_fits f (leb-true _ _ t.0) (leb-true _ _ t.1)
        point false f g h = absurd (false≢true g)

-- ---- a unit record
pub unit_fits : (least : ℕ) (bs : List ℕ) (u : Unit) → unit_record least bs ≡ taken u → UnitFits u
unfolding unit_record
unit_fits least bs u e =
    let whole = passed (leb unit_size (length bs)) EndsEarly _ u e in
    let header = passed (header_fine (unit_in bs)) _ _ u whole.1 in
    let defaults = passed (defaults_fine unit_default_limit (unit_in bs).defaults) _ _ u header.1 in
    let quality = passed (spare_bits_zero 60 bs) _ _ u defaults.1 in
    let values = passed (readings_fine (unit_in bs)) _ _ u quality.1 in
    let rises = passed (leb least (unit_in bs).number) UnitNotRising _ u values.1 in
    subst UnitFits (took rises.1) (fit (unit_in bs) header.0 defaults.0 values.0)
  where
    header_fine : Unit → Bool
    header_fine u = ltb u.region regions && leb (number_at 1 3 bs) 1 && sized power_limit u.start && sized power_limit u.end

    fit : (u : Unit) → header_fine u ≡ true → defaults_fine unit_default_limit u.defaults ≡ true → readings_fine u ≡ true → UnitFits u
    fit u n d f =
        let t = both (ltb u.region regions && leb (number_at 1 3 bs) 1 && sized power_limit u.start) (sized power_limit u.end) n in
        let s = both (ltb u.region regions && leb (number_at 1 3 bs) 1) (sized power_limit u.start) t.0 in
        let r = both (ltb u.region regions) (leb (number_at 1 3 bs) 1) s.0 in
        record {
          region = ltb-true _ _ r.0;
          start = size_fits power_limit u.start s.1;
          end = size_fits power_limit u.end t.1;
          defaults = defaults_fit unit_default_limit u.defaults d;
          reading = λ t l. point (good_at u.quality t) (get_or u.reading t (pos 0)) (every_at points _ f t l);
        }
      where
        point : (good : Bool) (x : ℤ) → reading_fine good x ≡ true → Within power_limit x
        point true x h = size_fits power_limit x h
        point false x h = within_wider (omega arith) (size_fits 0 x h)

-- ---- a requirement record
pub requirement_fits : (least : ℕ) (last : Bool) (bs : List ℕ) (q : Requirement) → requirement_record least last bs ≡ taken q → RequirementFits q
unfolding requirement_record
requirement_fits least last bs q e =
    let whole = passed (leb requirement_size (length bs)) EndsEarly _ q e in
    let fields = passed (leb least (requirement_in bs).number && leb (number_at 1 3 bs) 1 && requirement_fine (requirement_in bs)) RequirementField _ q
    whole.1 in
    let last = passed (not last || eqb (length bs) requirement_size) BytesFollow _ q fields.1 in
    let fine = both (leb least (requirement_in bs).number && leb (number_at 1 3 bs) 1) (requirement_fine (requirement_in bs)) fields.0 in
    subst RequirementFits (took last.1) (fit (requirement_in bs) fine.1)
  where
    fit : (q : Requirement) → requirement_fine q ≡ true → RequirementFits q
    fit q h =
        let used = both (set_fine q.set && leb q.price price_limit && leb q.cost cost_limit && leb q.enabled amount_limit)
        (leb q.used amount_limit) h in
        let enabled = both (set_fine q.set && leb q.price price_limit && leb q.cost cost_limit) (leb q.enabled amount_limit) used.0 in
        let cost = both (set_fine q.set && leb q.price price_limit) (leb q.cost cost_limit) enabled.0 in
        let price = both (set_fine q.set) (leb q.price price_limit) cost.0 in
        let set = both (leb 1 q.set) (leb q.set 31) price.0 in
        record {
          set = leb-true _ _ set.1;
          price = leb-true _ _ price.1;
          cost = leb-true _ _ cost.1;
          enabled = leb-true _ _ enabled.1;
          used = leb-true _ _ used.1;
        }

-- ---- bodies and book
-- a unit that may stand in its group is the one that the record says
pub in_group : (before : List Unit) (m : Reply Unit) (u : Unit) → (m >>= in_its_group before) ≡ taken u → (m ≡ taken u) × (group_fine before u ≡ true)
in_group before m u e =
    let read = went_on m (in_its_group before) u e in
    let p = passed (group_fine before read.0) WrongGroup (taken read.0) u read.2 in
    (read.1 ∙ p.1, subst (λ (u : Unit). group_fine before u ≡ true) (took p.1) p.0)

units_fit : (n place least : ℕ) (before : List Unit) (bs : List ℕ) (us : List Unit) → unit_body n place least before bs ≡ taken us →
    All UnitFits us × (length us ≡ n)
unfolding unit_body All
units_fit zero place least before bs us e = subst (λ (l : List Unit). All UnitFits l × (length l ≡ 0)) (took e) (tt, refl)
units_fit (suc n) place least before bs us e =
    let first = went_on (at place (unit_record least bs >>= in_its_group before)) _ us e in
    let rest = went_on (unit_body n (suc place) (suc first.0.number) (first.0 ∷ before) (drop unit_size bs)) _ us first.2 in
    let tail = units_fit n (suc place) (suc first.0.number) (first.0 ∷ before) (drop unit_size bs) rest.0 rest.1 in
    subst (λ (l : List Unit). All UnitFits l × (length l ≡ suc n)) (took rest.2)
    ((unit_fits least bs first.0 (in_group before (unit_record least bs) first.0 (there place _ first.0 first.1)).0, tail.0), ap suc tail.1)

regions_fit : (n r : ℕ) (bs : List ℕ) (rs : List Region) → frequency_body n r bs ≡ taken rs → (i : ℕ) → i < n → RegionFits (get_or rs i no_region)
unfolding frequency_body
regions_fit zero r bs rs e i l = none_below i l
regions_fit (suc n) r bs rs e i l =
    let first = went_on (at (suc r) (frequency_record r bs)) _ rs e in
    let rest = went_on (frequency_body n (suc r) (drop frequency_size bs)) _ rs first.2 in
    subst (λ (rs : List Region). RegionFits (get_or rs i no_region)) (took rest.2)
    (member first.0 rest.0 i l (region_fits r bs first.0 (there (suc r) _ first.0 first.1))
    (λ j. regions_fit n (suc r) (drop frequency_size bs) rest.0 rest.1 j))
  where
    member : (x : Region) (xs : List Region) (i : ℕ) → i < suc n → RegionFits x → ((j : ℕ) → j < n → RegionFits (get_or xs j no_region)) →
        RegionFits (get_or (x ∷ xs) i no_region)
    member x xs zero l h t = h
    member x xs (suc i) l h t = t i (omega arith)

requirements_fit : (n place least : ℕ) (bs : List ℕ) (qs : List Requirement) → requirement_body n place least bs ≡ taken qs → All RequirementFits qs
unfolding requirement_body All
requirements_fit zero place least bs qs e = subst (λ (l : List Requirement). All RequirementFits l) (took e) tt
requirements_fit (suc n) place least bs qs e =
    let first = went_on (at place (requirement_record least (eqb n 0) bs)) _ qs e in
    let rest = went_on (requirement_body n (suc place) (suc first.0.number) (drop requirement_size bs)) _ qs first.2 in
    subst (λ (l : List Requirement). All RequirementFits l) (took rest.2) (
      requirement_fits least (eqb n 0) bs first.0 (there place _ first.0 first.1),
      requirements_fit n (suc place) (suc first.0.number) (drop requirement_size bs) rest.0 rest.1,
    )

-- the table announces at most 512 units
entry_passed : {A : Type 0} (place kind least most start size : ℕ) (bs : List ℕ) (rest : Reply A) (a : A) →
    entry place kind least most start size bs rest ≡ taken a → (items place bs ≤ most) × (rest ≡ taken a)
entry_passed place kind least most start size bs rest a e =
    let named = passed (eqb (number_at 2 place bs) kind) WrongTable _ a e in
    let counts = passed (leb least (items place bs) && leb (items place bs) most) WrongCount _ a named.1 in
    let starts = passed (eqb (number_at 4 (place + 4) bs) start) WrongTable _ a counts.1 in
    let ends = passed (eqb (number_at 4 (place + 8) bs) (items place bs * size)) WrongTable _ a starts.1 in
    (leb-true _ _ (both (leb least (items place bs)) (leb (items place bs) most) counts.0).1, ends.1)

pub counts_fit : (bs : List ℕ) (c : Counts) → contents bs ≡ taken c → c.units ≤ most_units
unfolding contents
counts_fit bs c e =
    let whole = passed (leb contents_size (length bs)) EndsEarly _ c e in
    let marked = passed (eqb (number_at 4 0 bs) mark) WrongMark _ c whole.1 in
    let entries = passed (eqb (number_at 2 4 bs) 4) WrongTable _ c marked.1 in
    let header = passed (eqb (number_at 2 6 bs) 0) WrongTable _ c entries.1 in
    let settings = (entry_passed 8 1 1 1 _ _ bs _ c header.1).1 in
    let frequency = (entry_passed 20 2 5 5 _ _ bs _ c settings).1 in
    let unit = entry_passed 32 3 0 most_units _ _ bs _ c frequency in
    let requirement = entry_passed 44 4 1 most_requirements _ _ bs _ c unit.1 in
    subst (λ (c : Counts). c.units ≤ most_units) (took requirement.1) unit.0

pub book_fits : (bs : List ℕ) (b : Book) → book bs ≡ taken b → BookFits b
unfolding book
book_fits bs b e =
    let counts = went_on (at 0 (contents bs)) _ b e in
    let s = went_on (at 1 (settings (drop contents_size bs))) _ b counts.2 in
    let rs = went_on (frequency_body regions 0 (drop frequency_start bs)) _ b s.2 in
    let us = went_on (unit_body counts.0.units 1 0 [] (drop unit_start bs)) _ b rs.2 in
    let qs = went_on (requirement_body counts.0.requirements 1 0 (drop (requirement_start counts.0.units) bs)) _ b us.2 in
    let units = units_fit counts.0.units 1 0 [] (drop unit_start bs) us.0 us.1 in
    subst BookFits (took qs.2)
    (record {
      settings = settings_fit (drop contents_size bs) s.0 (there 1 _ s.0 s.1);
      region = regions_fit regions 0 (drop frequency_start bs) rs.0 rs.1;
      roster = units.0;
      few = omega (arith, units.1, counts_fit bs counts.0 (there 0 _ counts.0 counts.1));
      requirements = requirements_fit counts.0.requirements 1 0 (drop (requirement_start counts.0.units) bs) qs.0 qs.1;
    })
