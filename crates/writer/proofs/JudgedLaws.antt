-- Laws of the definitions in specs/Judged.antt: a body is judged by its first record and then by the rest; a number that does not fit is told where its field's
-- rule is tested; a unit stands in its group by the rows as it does by the units that they say.
use Rattle.std.specs.Prelude.{Ok, Err}
use mathlib.Core.Path.{◌≡◌, refl, sym, ◌∙◌, ap, ap₂}
use mathlib.Core.Bool.{Bool, true, false, cond, not, ◌&&◌}
use mathlib.Core.List.{List, append-nil}
use Prim.Native.Nat.{ℕ, zero, suc, ◌+◌, ◌<◌, ◌^◌}
use native.Mathlib.Decide.{ℕ_discrete}
use native.Mathlib.Numerals.{add-one}
use native.Mathlib.Nat.{zero-add}
use native.Mathlib.Omega.{arith}
use lib.Dec.{eqb, leb, ltb}
use lib.IntN.{ℤ, pos, negsuc, nat_abs}
use lib.ListN.{length, drop_of_length-le}
use lib.Signed.{mag}
use mir.Syntax.{w64}
use mir.Val.{SFits, hbits, to_z, of_z}
use mir.Facts.{to_z-of_z}
use borrow.Author.Rules.{sfits_of}
use borrow.Author.Tests.{eq-eqb, ne_eqb, lt-ltb, not-true, not-false}
use Rattle.rules.specs.declared.Refusal.{Refusal}
use Rattle.rules.specs.declared.Refusal.TheVariants.{
  FrequencyHeader,
  FrequencyDefault,
  FrequencyQuality,
  FrequencyPoint,
  UnitHeader,
  UnitDefault,
  UnitQuality,
  UnitReading,
  UnitNotRising,
  WrongGroup,
}
use Rattle.rules.specs.Refusals.{Reply, LocatedReply, taken, refused, at, located, unless, ◌>>=◌}
use Rattle.rules.specs.Book.{Region, Unit}
use Rattle.integers.specs.Sums.{first_wrong}
use Rattle.rules.specs.Quantities.{points, regions, measure_limit, amount_limit, power_limit, unit_default_limit, residual_default_limit}
use Rattle.rules.specs.Fields.{spare_bits_zero, defaults_fine, sized}
use Rattle.rules.specs.Layout.{
  number_of,
  settings_smoothing,
  settings_limit,
  settings_percent,
  settings_interval,
  region_position,
  region_separation,
  region_quality,
  unit_number,
  unit_kind,
  unit_quality,
  unit_group,
}
use Rattle.rules.specs.Laid.{laid, fits, word}
use Rattle.rules.specs.Given.{Given, region_cell, unit_cell}
use Rattle.rules.specs.SettingsRecord.{settings}
use Rattle.rules.specs.FrequencyRecord.{region_in, point_fine, frequencies_fine, region_judged, frequency_record}
use Rattle.rules.specs.RequirementRecord.{requirement_record}
use Rattle.rules.specs.UnitRecord.{UnitWidths, unit_in, readings_fine, unit_judged, unit_record, point_fine as reading_fine_at}
use Rattle.rules.specs.Groups.{new_among, group_fine, in_its_group}
use Rattle.rules.specs.Written.{
  settings_filled,
  settings_given,
  region_laid,
  unit_laid,
  unit_widths,
  unit_given,
  requirement_laid,
  requirement_widths,
  requirement_given,
}
use Rattle.rules.specs.Deviation.{good}
use Rattle.integers.proofs.Sums.{none_below}
use Rattle.laws.proofs.LimitsLaws.{passed, took, went_on}
use Rattle.laws.proofs.Judged.{unit_taken}
use Rattle.laws.proofs.LaidLaws.{settings_length, region_length, unit_length, requirement_length, unit_number_back, unit_region_back, unit_group_back}
use Rattle.book.specs.declared.UnitFields.{UnitFields}
use Rattle.book.specs.Frequency.{frequency_answer}
use Rattle.book.specs.Unit.{unit_answer, unit_of}
use Rattle.writer.specs.Put.{put}
use Rattle.writer.specs.Judged.{judged, least_for, amounts_told, group_told, row_group, new_before, stands, units_before, unit_found}

-- ---- a body
pub front_refused : {A C : Type 0} (place : ℕ) (x : Reply A) (f : A → LocatedReply C) (r : Refusal) → x ≡ refused r →
    judged (at place x >>= f) ≡ Err (located place r)
front_refused place x f r e = rw e

pub front_taken : {A B C : Type 0} (place : ℕ) (x : Reply A) (f : A → LocatedReply B) (k : A → B → C) (a : A) → x ≡ taken a →
    judged (at place x >>= λ first. (f first >>= λ rest. taken (k first rest))) ≡ judged (f a)
front_taken {A} {B} place x f k a e = rw e (go (f a))
  where
    go : (y : LocatedReply B) → judged (y >>= λ rest. taken (k a rest)) ≡ judged y
    go (taken b) = refl
    go (refused w) = refl

-- ---- where a number that does not fit is told
pub amounts_late : (h q n d p : Bool) (t : ℕ) (r : Region) →
    frequency_answer (unless h FrequencyHeader (unless q FrequencyQuality (refused FrequencyHeader))) ≡ amounts_told
    (frequency_answer (unless h FrequencyHeader (unless q FrequencyQuality (unless n FrequencyHeader (unless d FrequencyDefault (unless p (FrequencyPoint t)
    (taken r)))))))
amounts_late false q n d p t r = refl
amounts_late true false n d p t r = refl
amounts_late true true false d p t r = refl
amounts_late true true true false p t r = refl
amounts_late true true true true false t r = refl
amounts_late true true true true true t r = refl

pub group_late : (h d q p n : Bool) (t : ℕ) (u : Unit) →
    unit_answer (unless h UnitHeader (unless d UnitDefault (refused UnitQuality))) ≡ group_told
    (unit_answer (unless h UnitHeader (unless d UnitDefault (unless q UnitQuality (unless p (UnitReading t) (unless n UnitNotRising (taken u)))))))
group_late false d q p n t u = refl
group_late true false q p n t u = refl
group_late true true false p n t u = refl
group_late true true true false n t u = refl
group_late true true true true false t u = refl
group_late true true true true true t u = refl

-- ---- a unit that was found fine is what its bytes say
pub found_is : (least : ℕ) (g : Given) (j : ℕ) (u : Unit) → unit_found least g j ≡ taken u → u ≡ unit_in (unit_laid g j)
found_is least g j u e =
    let went = went_on (unit_given least g j) (in_its_group (units_before g j)) u e in
    let v = went.0 in
    sym (took (passed (group_fine (units_before g j) v) WrongGroup (taken v) u went.2).1) ∙ sym (unit_taken (unit_widths g j) least (unit_laid g j) v
    went.1).is

-- ---- a unit in its group
new_is : (h : ℕ) (g : Given) (j : ℕ) → new_before h g.unit_rows j ≡ new_among h (units_before g j)
unfolding new_before new_among units_before unit_in
new_is h g zero = refl
new_is h g (suc j) = rw (unit_group_back g j, new_is h g j)

pub stands_is : (g : Given) (j : ℕ) (u : Unit) (b : Bool) → stands (unit_of u b) g.unit_rows j ≡ group_fine (units_before g j) u
unfolding stands group_fine units_before unit_in
stands_is g zero u b = refl
stands_is g (suc j) u b = rw (new_is u.group g (suc j), unit_group_back g j, unit_region_back g j)

and_false : (b : Bool) → b && false ≡ false
and_false true = refl
and_false false = refl

-- a group that a unit before has is not new
pub not_new : (h : ℕ) (rows : List ℤ) (i j : ℕ) → i < j → row_group rows i ≡ h → new_before h rows j ≡ false
unfolding new_before
not_new h rows i zero l e = none_below i l
not_new h rows i (suc j) l e = go (λ m. not_new h rows i j m e) (ℕ_discrete i j)
  where
    go : (i < j → new_before h rows j ≡ false) → Dec (i ≡ j) → new_before h rows j && not (eqb (row_group rows j) h) ≡ false
    go earlier (yes s) = rw (eq-eqb (row_group rows j) h (sym (ap (row_group rows) s) ∙ e)) (and_false (new_before h rows j))
    go earlier (no d) = rw (earlier (omega arith))

-- ---- a test of a number of 64 bits, as a call was handed it: it failed, it held, it is the answer
module _ (p : ℤ → Bool) (z : ℤ) {t : Bool} (small : mag z < 2 ^ hbits w64) (e : t ≡ p (to_z w64 (of_z w64 z))) where
  pub handed_is : t ≡ p z
  handed_is = e ∙ ap p (to_z-of_z {w = w64} (sfits_of small))

  pub handed_refused : not t ≡ true → p z ≡ false
  handed_refused n = sym handed_is ∙ not-true t n

  pub handed_passed : not t ≡ false → p z ≡ true
  handed_passed n = sym handed_is ∙ not-false t n

-- ---- a record that is laid out in an array of its own length is read as it is judged, where its numbers fit
pub put_whole : (xs old : List ℕ) → length xs ≡ length old → put 0 xs old ≡ xs
unfolding put
put_whole xs old e = rw (zero-add (length xs), drop_of_length-le old {i = length xs} (omega arith)) (append-nil xs)

pub settings_read : (g : Given) → fits settings_smoothing g.smoothing && fits settings_limit g.limit && fits settings_percent g.percent && fits
    settings_interval g.interval ≡ true → settings (laid (settings_filled g)) ≡ settings_given g
unfolding settings
settings_read g fit = rw (settings_length g, fit)

pub region_read : (g : Given) (r : ℕ) → fits region_separation (region_cell g r 0) ≡ true →
    frequency_record r (region_laid g r) ≡ region_judged (record { separation = fits region_separation (region_cell g r 0); amounts = true }) r
    (region_laid g r)
unfolding frequency_record
region_read g r fit = rw (region_length g r, fit)

pub requirement_read : (g : Given) (least : ℕ) (last : Bool) (q : ℕ) → requirement_widths g q ≡ true →
    requirement_record least last (requirement_laid g q) ≡ requirement_given least last g q
unfolding requirement_record
requirement_read g least last q fit = rw (requirement_length g q, fit)

pub handed_both : (p : ℤ → ℤ → Bool) (y z : ℤ) {t : Bool} → mag y < 2 ^ hbits w64 → mag z < 2 ^ hbits w64 →
    t ≡ p (to_z w64 (of_z w64 y)) (to_z w64 (of_z w64 z)) → t ≡ p y z
handed_both p y z small_y small_z e = e ∙ ap₂ p (to_z-of_z {w = w64} (sfits_of small_y)) (to_z-of_z {w = w64} (sfits_of small_z))

-- ---- FM before and generation that do not fit
pub region_late : (s : Bool) (r : ℕ) (bs : List ℕ) → frequency_answer (region_judged (record { separation = s; amounts = false }) r bs) ≡
    amounts_told (frequency_answer (region_judged (record { separation = s; amounts = true }) r bs))
region_late s r bs =
    amounts_late (s && (eqb (number_of region_position bs) r && leb (number_of region_separation bs) 1)) (spare_bits_zero region_quality.place bs)
    (sized measure_limit (region_in bs).before && leb (region_in bs).generation amount_limit) (defaults_fine residual_default_limit (region_in bs).defaults)
    (frequencies_fine (region_in bs)) (first_wrong (point_fine (region_in bs)) points) (region_in bs)

-- ---- a unit whose header fits
abbrev pub widths_of_unit : Bool → Bool → Bool → UnitWidths
widths_of_unit h g n = record { header = h; group = g; number = n }

pub unit_read : (g : Given) (least j : ℕ) (h : Bool) → h ≡ true → unit_record least (unit_laid g j) ≡ unit_judged (widths_of_unit h true true) least
    (unit_laid g j)
unfolding unit_record
unit_read g least j h fit = rw (unit_length g j, fit)

-- a number that does not fit is 0 in its field, and rises above nothing
pub least_late : (g : Given) (least j : ℕ) (h b : Bool) →
    unit_judged (widths_of_unit h b (fits unit_number (unit_cell g j 0))) least (unit_laid g j) ≡
    unit_judged (widths_of_unit h b true) (least_for (unit_cell g j 0) least) (unit_laid g j)
unfolding unit_in
least_late g least j h b = rw (unit_number_back g j, go (fits unit_number x) refl)
  where
    x : ℤ
    x = unit_cell g j 0

    go : (t : Bool) → fits unit_number x ≡ t → t && leb least (cond t (nat_abs x) 0) ≡ leb (cond t least 65536) (cond t (nat_abs x) 0)
    go true e = refl
    go false e = refl

pub unit_late : (least : ℕ) (h : Bool) (bs : List ℕ) → unit_answer (unit_judged (widths_of_unit h false true) least bs) ≡
    group_told (unit_answer (unit_judged (widths_of_unit h true true) least bs))
unit_late least h bs =
    let u = unit_in bs in
    group_late (h && (ltb u.region regions && leb (number_of unit_kind bs) 1 && sized power_limit u.start && sized power_limit u.end))
    (defaults_fine unit_default_limit u.defaults) (spare_bits_zero unit_quality.place bs) (readings_fine u) (leb least u.number)
    (first_wrong (reading_fine_at u) points) u

-- ---- a group of 16 bits that is not 0, and the bits of a number that is handed in
pub same_word : (h : ℕ) (x : ℤ) → h < 65536 → SFits w64 x → of_z w64 x ≡ h → word unit_group x ≡ h
same_word h (pos n) l f e = let small : n < 65536 = omega (arith, e) in rw (lt-ltb n 65536 small) e
same_word h (negsuc n) l f e = absurd (omega (arith, f.sfits, e))

pub other_word : (h : ℕ) (x : ℤ) → 0 < h → (of_z w64 x ≡ h → ⊥) → word unit_group x ≡ h → ⊥
other_word h (pos n) l d e = go (ltb n 65536) refl
  where
    go : (t : Bool) → ltb n 65536 ≡ t → ⊥
    go true b = d (rw b at e)
    go false b = let none : 0 ≡ h = rw b at e in omega arith
other_word h (negsuc n) l d e = omega (arith, e)

pub new_more : (h : ℕ) (rows : List ℤ) (i : ℕ) → new_before h rows i ≡ true → (row_group rows i ≡ h → ⊥) → new_before h rows (i + 1) ≡ true
unfolding new_before
new_more h rows i e d = rw (add-one i, e, ne_eqb (row_group rows i) h d)

-- ---- a unit that was read, and then its group
pub found_stands : (least : ℕ) (g : Given) (j : ℕ) (a : Unit) (v : UnitFields) → unit_given least g j ≡ taken a → unit_answer (taken a) ≡ Ok v →
    unit_answer (unit_found least g j) ≡ cond (stands v g.unit_rows j) (Ok v) (Err WrongGroup)
found_stands least g j a v e is =
    let same : unit_of a (good a) ≡ v = cc in
    rw (← same, stands_is g j a (good a)) (ap (λ (x : Reply Unit). unit_answer (x >>= in_its_group (units_before g j))) e ∙ go (group_fine
    (units_before g j) a))
  where
    go : (t : Bool) → unit_answer (unless t WrongGroup (taken a)) ≡ cond t (Ok (unit_of a (good a))) (Err WrongGroup)
    go true = refl
    go false = refl

pub found_refused : (least : ℕ) (g : Given) (j : ℕ) (r : Refusal) → unit_given least g j ≡ refused r → unit_answer (unit_found least g j) ≡ Err r
found_refused least g j r e = ap (λ (x : Reply Unit). unit_answer (x >>= in_its_group (units_before g j))) e
