-- Laws of the book writer: where every number fits its field, writer and reader answer alike; what the writer never refuses with; what a written book is.
use mathlib.Core.Path.{◌≡◌, refl, sym, ◌∙◌, ap}
use mathlib.Core.Bool.{Bool, true, ◌&&◌}
use mathlib.Core.List.{List, [], ◌∷◌, ◌++◌, append_assoc}
use Prim.Native.Nat.{ℕ, zero, suc, ◌+◌, ◌*◌, ◌%◌, ◌^◌, ◌≤◌, ◌<◌}
use native.Mathlib.Nat.{mod-eq_of_lt}
use native.Mathlib.Omega.{arith}
use lib.Dec.{T, leb, ltb, eqb, lit<}
use lib.ListN.{length, get_or, drop, length-append}
use lib.Seq.{drop_at, drop-append-add, drop-drop}
use borrow.Author.Tests.{le-leb, leb-true, eq-eqb, eqb-true}
use Rattle.integers.specs.Sums.{both}
use Rattle.rules.specs.Quantities.{regions, most_units, most_requirements}
use Rattle.rules.specs.Layout.{number_in, book_mark}
use Rattle.rules.specs.Refusals.{ReplyOf, Reply, taken, refused, at, ◌>>=◌}
use Rattle.rules.specs.Book.{Unit}
use Rattle.rules.specs.Contents.{contents, unit_size, requirement_start, requirement_size}
use Rattle.rules.specs.SettingsRecord.{settings, settings_judged}
use Rattle.rules.specs.FrequencyRecord.{RegionWidths, frequency_record, region_judged}
use Rattle.rules.specs.UnitRecord.{UnitWidths, unit_record, unit_judged}
use Rattle.rules.specs.Groups.{in_its_group}
use Rattle.rules.specs.RequirementRecord.{requirement_record, requirement_judged}
use Rattle.rules.specs.WholeBook.{frequency_body, unit_body, requirement_body, book}
use Rattle.rules.specs.Laid.{Filled, strung, laid, ◌is◌}
use Rattle.rules.specs.Given.{Given}
use Rattle.rules.specs.Written.{
  contents_filled,
  settings_filled,
  region_laid,
  unit_laid,
  requirement_laid,
  book_laid,
  region_widths,
  unit_widths,
  requirement_widths,
  settings_given,
  region_given,
  unit_given,
  requirement_given,
  regions_given,
  units_given,
  requirements_given,
  book_given,
  counts_fine,
}
use Rattle.rules.specs.Said.{Fit}
use Rattle.laws.proofs.LaidLaws.{strung_length, contents_length, settings_length, region_length, unit_length, requirement_length, gapless, field_back}
use Rattle.laws.proofs.Fronts.{settings_front, frequency_front, unit_front, requirement_front}

-- replies that are alike, and what comes after them
pub bind_alike : {R A B : Type 0} {m n : ReplyOf R A} {f g : A → ReplyOf R B} → m ≡ n → ((a : A) → f a ≡ g a) → (m >>= f) ≡ (n >>= g)
bind_alike {R} {A} {B} {m} {n} {f} {g} e h = ap (λ (x : ReplyOf R A). x >>= f) e ∙ go n
  where
    go : (n : ReplyOf R A) → (n >>= f) ≡ (n >>= g)
    go (taken a) = h a
    go (refused r) = refl

bind_taken : {R A B : Type 0} {m : ReplyOf R A} {a : A} (f : A → ReplyOf R B) {x : ReplyOf R B} → m ≡ taken a → f a ≡ x → (m >>= f) ≡ x
bind_taken {R} {A} {B} {m} {a} f e h = ap (λ (n : ReplyOf R A). n >>= f) e ∙ h

-- what is behind a part and more
drop_behind : (xs ys : List ℕ) (m n : ℕ) → length xs ≡ m → drop (m + n) (xs ++ ys) ≡ drop n ys
drop_behind xs ys m n e = rw (← e) (drop-append-add xs ys n)

-- ---- the table of contents is read back
module _ (units requirements : ℕ) (rest : List ℕ) (few : units ≤ most_units) (some : 1 ≤ requirements) (most : requirements ≤ most_requirements) where
  abbrev filled : ℕ → Filled
  filled k = get_or (contents_filled units requirements) k (book_mark is 0)

  cell : (k : ℕ) → T (ltb k 19) → T (ltb 0 (filled k).field.count) →
      number_in (filled k).field 0 (laid (contents_filled units requirements) ++ rest) ≡ (filled k).words 0 % 256 ^ (filled k).field.width
  unfolding gapless
  cell k l h = field_back (book_mark is 0) (contents_filled units requirements) rest k 0 refl (lit< l) (lit< h)

  pub contents_back : contents (laid (contents_filled units requirements) ++ rest) ≡ taken (record { units = units; requirements = requirements })
  unfolding contents
  contents_back =
      let whole = laid (contents_filled units requirements) in
      rw (
        le-leb 56 (length (whole ++ rest)) (omega (arith, contents_length units requirements, length-append whole rest)),
        cell 0 tt tt,
        cell 1 tt tt,
        cell 2 tt tt,
        cell 3 tt tt,
        cell 4 tt tt,
        cell 5 tt tt,
        cell 6 tt tt,
        cell 7 tt tt,
        cell 8 tt tt,
        cell 9 tt tt,
        cell 10 tt tt,
        cell 11 tt tt,
        cell 12 tt tt ∙ mod-eq_of_lt (omega arith),
        cell 13 tt tt,
        cell 14 tt tt ∙ mod-eq_of_lt (omega arith),
        cell 15 tt tt,
        cell 16 tt tt ∙ mod-eq_of_lt (omega arith),
        cell 17 tt tt ∙ mod-eq_of_lt (omega arith),
        cell 18 tt tt ∙ mod-eq_of_lt (omega arith),
        le-leb 0 units (omega arith),
        le-leb units most_units few,
        le-leb 1 requirements some,
        le-leb requirements most_requirements most,
        eq-eqb (units * unit_size) (units * unit_size) refl,
        eq-eqb (requirements * requirement_size) (requirements * requirement_size) refl,
        eq-eqb (requirement_start units) (requirement_start units) refl,
      )

-- ---- the bodies, behind which other bytes may stand
module _ (g : Given) where
  regions_alike : (n r : ℕ) (rest : List ℕ) →
      ((i : ℕ) → r ≤ i → i < r + n → region_widths g i ≡ record { separation = true; amounts = true }) →
      regions_given n g r ≡ frequency_body n r (strung r n (region_laid g) ++ rest)
  unfolding regions_given frequency_body strung
  regions_alike zero r rest fit = refl
  regions_alike (suc n) r rest fit =
      let others = strung (suc r) n (region_laid g) ++ rest in
      let here : region_given g r ≡ frequency_record r (region_laid g r ++ others) =
      ap (λ (f : RegionWidths). region_judged f r (region_laid g r)) (fit r (omega arith) (omega arith))
      ∙ sym (frequency_front (region_laid g r) others r (omega (arith, region_length g r))) in
      let next : drop 368 (region_laid g r ++ others) ≡ others = drop_at (region_laid g r) others 368 (region_length g r) in
      rw (append_assoc (region_laid g r) (strung (suc r) n (region_laid g)) rest) (bind_alike (ap (at (suc r)) here)
      (λ x. bind_alike (regions_alike n (suc r) rest (λ i l h. fit i (omega arith) (omega arith)) ∙ ap (frequency_body n (suc r)) (sym next)) (λ xs. refl)))

  units_alike : (n least j : ℕ) (before : List Unit) (rest : List ℕ) →
      ((i : ℕ) → j ≤ i → i < j + n → unit_widths g i ≡ record { header = true; group = true; number = true }) →
      units_given n least before g j ≡ unit_body n (suc j) least before (strung j n (unit_laid g) ++ rest)
  unfolding units_given unit_body strung
  units_alike zero least j before rest fit = refl
  units_alike (suc n) least j before rest fit =
      let others = strung (suc j) n (unit_laid g) ++ rest in
      let here : unit_given least g j ≡ unit_record least (unit_laid g j ++ others) =
      ap (λ (f : UnitWidths). unit_judged f least (unit_laid g j)) (fit j (omega arith) (omega arith))
      ∙ sym (unit_front (unit_laid g j) others least (omega (arith, unit_length g j))) in
      let next : drop 372 (unit_laid g j ++ others) ≡ others = drop_at (unit_laid g j) others 372 (unit_length g j) in
      rw (append_assoc (unit_laid g j) (strung (suc j) n (unit_laid g)) rest)
      (bind_alike (ap (λ (m : Reply Unit). at (suc j) (m >>= in_its_group before)) here) (λ u. bind_alike
      (units_alike n (suc u.number) (suc j) (u ∷ before) rest (λ i l h. fit i (omega arith) (omega arith))
      ∙ ap (unit_body n (suc (suc j)) (suc u.number) (u ∷ before)) (sym next)) (λ us. refl)))

  requirements_alike : (n least q : ℕ) → ((i : ℕ) → q ≤ i → i < q + n → requirement_widths g i ≡ true) →
      requirements_given n least g q ≡ requirement_body n (suc q) least (strung q n (requirement_laid g))
  unfolding requirements_given requirement_body strung
  requirements_alike zero least q fit = refl
  requirements_alike (suc n) least q fit =
      let others = strung (suc q) n (requirement_laid g) in
      let none : eqb n 0 ≡ true → others ≡ [] = λ e. ap (λ (m : ℕ). strung (suc q) m (requirement_laid g)) (eqb-true n 0 e) in
      let here : requirement_given least (eqb n 0) g q ≡ requirement_record least (eqb n 0) (requirement_laid g q ++ others) =
      ap (λ (f : Bool). requirement_judged f least (eqb n 0) (requirement_laid g q)) (fit q (omega arith) (omega arith))
      ∙ sym (requirement_front (requirement_laid g q) others least (eqb n 0) (omega (arith, requirement_length g q)) none) in
      let next : drop 24 (requirement_laid g q ++ others) ≡ others = drop_at (requirement_laid g q) others 24 (requirement_length g q) in
      bind_alike (ap (at (suc q)) here) (λ x. bind_alike
      (requirements_alike n (suc x.number) (suc q) (λ i l h. fit i (omega arith) (omega arith))
      ∙ ap (requirement_body n (suc (suc q)) (suc x.number)) (sym next)) (λ xs. refl))

-- WRITER AND READER ANSWER ALIKE, with number, place and t, where every number that is handed in fits its field
pub refused_alike : (g : Given) → Fit g → counts_fine g ≡ true → book_given g ≡ book (book_laid g)
unfolding book_given book book_laid
refused_alike g fit fine =
    let counts = both (leb g.units most_units && leb 1 g.requirements) (leb g.requirements most_requirements) fine in
    let few = both (leb g.units most_units) (leb 1 g.requirements) counts.0 in
    let table = laid (contents_filled g.units g.requirements) in
    let s = laid (settings_filled g) in
    let rs = strung 0 regions (region_laid g) in
    let us = strung 0 g.units (unit_laid g) in
    let qs = strung 0 g.requirements (requirement_laid g) in
    let whole = table ++ (s ++ (rs ++ (us ++ qs))) in
    let table_is = contents_length g.units g.requirements in
    let units_size = strung_length 0 g.units unit_size (unit_laid g) (unit_length g) in
    let behind_table : drop 56 whole ≡ s ++ (rs ++ (us ++ qs)) = drop_at table _ 56 table_is in
    let behind_settings : drop 64 whole ≡ rs ++ (us ++ qs) =
    drop_behind table (s ++ (rs ++ (us ++ qs))) 56 8 table_is ∙ drop_at s (rs ++ (us ++ qs)) 8 (settings_length g) in
    let behind_regions : drop 1904 whole ≡ us ++ qs =
    drop_behind table (s ++ (rs ++ (us ++ qs))) 56 1848 table_is ∙ drop_behind s (rs ++ (us ++ qs)) 8 1840 (settings_length g)
    ∙ drop_at rs (us ++ qs) 1840 (strung_length 0 regions 368 (region_laid g) (region_length g)) in
    let behind_units : drop (requirement_start g.units) whole ≡ qs =
    sym (drop-drop (g.units * unit_size) 1904 whole) ∙ ap (drop (g.units * unit_size)) behind_regions ∙ drop_at us qs (g.units * unit_size) units_size in
    let settings_alike : settings_given g ≡ settings (drop 56 whole) =
    ap (λ (f : Bool). settings_judged f s) fit.settings ∙ sym (settings_front s (rs ++ (us ++ qs)) (omega (arith, settings_length g)))
    ∙ ap settings (sym behind_table) in
    let rs_alike : regions_given regions g 0 ≡ frequency_body regions 0 (drop 64 whole) =
    regions_alike g regions 0 (us ++ qs) (λ i l h. fit.region i h) ∙ ap (frequency_body regions 0) (sym behind_settings) in
    let us_alike : units_given g.units 0 [] g 0 ≡ unit_body g.units 1 0 [] (drop 1904 whole) =
    units_alike g g.units 0 0 [] qs (λ i l h. fit.unit i (omega arith)) ∙ ap (unit_body g.units 1 0 []) (sym behind_regions) in
    let qs_alike : requirements_given g.requirements 0 g 0 ≡ requirement_body g.requirements 1 0 (drop (requirement_start g.units) whole) =
    requirements_alike g g.requirements 0 0 (λ i l h. fit.requirement i (omega arith)) ∙ ap (requirement_body g.requirements 1 0) (sym behind_units) in
    let start : at 0 (contents whole) ≡ taken (record { units = g.units; requirements = g.requirements }) =
    ap (at 0) (contents_back g.units g.requirements (s ++ (rs ++ (us ++ qs))) (leb-true _ _ few.0) (leb-true _ _ few.1) (leb-true _ _ counts.1))
    in
    sym (bind_taken _ start (sym (bind_alike (ap (at 1) settings_alike) (λ s. bind_alike rs_alike (λ rs. bind_alike us_alike (λ us. bind_alike qs_alike
    (λ qs. refl)))))))
