-- What is laid out is read back as what was said: the records that the writer lays out, as the reader takes them apart.
use mathlib.Core.Path.{◌≡◌, refl, sym, ◌∙◌, ap}
use mathlib.Core.Bool.{Bool, true, cond, false≢true}
use mathlib.Core.List.{List}
use Prim.Native.Nat.{ℕ, suc, ◌+◌, ◌*◌, ◌-◌, ◌/◌, ◌%◌, ◌^◌, ◌<◌}
use native.Mathlib.Nat.{mod-eq_of_lt, one-mul}
use native.Mathlib.Omega.{arith}
use lib.Dec.{T, ltb, lit<}
use lib.IntN.{ℤ, pos, negsuc, nat_abs}
use lib.ListN.{length, get_or}
use borrow.Author.Tests.{ltb-true, le-ltb}
use Rattle.rules.specs.Quantities.{points, regions}
use Rattle.rules.specs.Bytes.{number_at, integer_at, signed, bit, listed}
use Rattle.rules.specs.Layout.{number_in, region_separation, unit_number, unit_group}
use Rattle.rules.specs.Fields.{quality_in}
use Rattle.rules.specs.SettingsRecord.{settings_in}
use Rattle.rules.specs.FrequencyRecord.{RegionWidths, region_in}
use Rattle.rules.specs.UnitRecord.{UnitWidths, unit_in}
use Rattle.rules.specs.RequirementRecord.{requirement_in}
use Rattle.rules.specs.Laid.{Filled, laid, below, halved, turned, fits, ◌is◌}
use Rattle.rules.specs.Given.{Given, region_cell, unit_cell, requirement_cell, region_mark, unit_mark, frequency_given, reading_given}
use Rattle.rules.specs.Written.{settings_filled, region_filled, unit_filled, requirement_filled, region_laid, unit_laid, requirement_laid}
use Rattle.rules.specs.Said.{Fit, Typed, quality_said, settings_said, region_said, unit_said, requirement_said}
use Rattle.laws.proofs.LaidLaws.{gapless, laid_back}
use Rattle.laws.proofs.Judged.{first_of, second_of}
use Rattle.laws.proofs.Fronts.{listed_alike}

-- ---- a number that fits, as its field holds it and as it is read
pub word_is : (end : ℕ) (x : ℤ) → below end x ≡ true → cond (below end x) (nat_abs x) 0 % end ≡ nat_abs x
word_is end (pos x) e = rw e (mod-eq_of_lt (ltb-true x end e))
word_is end (negsuc x) e = absurd (false≢true e)

-- a signed number, from its half
abbrev pub signed_by : ℕ → ℕ → ℤ
signed_by half x = cond (ltb x half) (pos x) (negsuc (half + half - suc x))

pub turned_is : (half : ℕ) (x : ℤ) → halved half x ≡ true → signed_by half (turned (half + half) x % (half + half)) ≡ x
turned_is half (pos x) e =
    let h : x < half = ltb-true x half e in
    let m : x % (half + half) ≡ x = mod-eq_of_lt (omega arith) in
    rw (m, e)
turned_is half (negsuc x) e =
    let h : x < half = ltb-true x half e in
    let m : (half + half - suc x) % (half + half) ≡ half + half - suc x = mod-eq_of_lt (omega arith) in
    let twice : half + half - suc (half + half - suc x) ≡ x = omega arith in
    rw (m, le-ltb (half + half - suc x) half (omega arith), twice)

pub signed_word_is : (half : ℕ) (x : ℤ) → halved half x ≡ true → signed_by half (cond (halved half x) (turned (half + half) x) 0 % (half + half)) ≡ x
signed_word_is half x e = ap (λ (t : Bool). signed_by half (cond t (turned (half + half) x) 0 % (half + half))) e ∙ turned_is half x e

-- the k-th field of some, and the i-th of its numbers as it is read
abbrev nth : List Filled → ℕ → Filled
nth fs k = get_or fs k (unit_number is 0)

back : (fs : List Filled) → gapless 0 fs ≡ true → (k i : ℕ) → T (ltb k (length fs)) → i < (nth fs k).field.count →
    number_in (nth fs k).field i (laid fs) ≡ (nth fs k).words i % 256 ^ (nth fs k).field.width
back fs e k i l h = laid_back (unit_number is 0) fs k i e (lit< l) h

-- ---- the records
module _ (g : Given) (fit : Fit g) where
  pub settings_back : settings_in (laid (settings_filled g)) ≡ settings_said g
  unfolding settings_said gapless
  settings_back =
      let all = fit.settings in
      let at = back (settings_filled g) refl in
      rw (
        at 0 0 tt (lit< tt) ∙ word_is (2 ^ 16) g.smoothing (search (first_of, second_of) depth 9),
        at 1 0 tt (lit< tt) ∙ word_is (2 ^ 8) g.limit (search (first_of, second_of) depth 9),
        at 2 0 tt (lit< tt) ∙ word_is (2 ^ 8) g.percent (search (first_of, second_of) depth 9),
        at 3 0 tt (lit< tt) ∙ word_is (2 ^ 32) g.interval (search (first_of, second_of) depth 9),
      )

  pub requirement_back : (q : ℕ) → q < g.requirements → requirement_in (requirement_laid g q) ≡ requirement_said g q
  unfolding requirement_in requirement_said gapless
  requirement_back q h =
      let all = fit.requirement q h in
      let at = back (requirement_filled g q) refl in
      let cell = requirement_cell g q in
      rw (
        at 0 0 tt (lit< tt) ∙ word_is (2 ^ 16) (cell 0) (search (first_of, second_of) depth 9),
        at 1 0 tt (lit< tt) ∙ word_is (2 ^ 8) (cell 1) (search (first_of, second_of) depth 9),
        at 2 0 tt (lit< tt) ∙ word_is (2 ^ 8) (cell 2) (search (first_of, second_of) depth 9),
        at 3 0 tt (lit< tt) ∙ word_is (2 ^ 32) (cell 3) (search (first_of, second_of) depth 9),
        at 4 0 tt (lit< tt) ∙ word_is (2 ^ 64) (cell 4) (search (first_of, second_of) depth 9),
        at 5 0 tt (lit< tt) ∙ word_is (2 ^ 32) (cell 5) (search (first_of, second_of) depth 9),
        at 6 0 tt (lit< tt) ∙ word_is (2 ^ 32) (cell 6) (search (first_of, second_of) depth 9),
      )

  module _ (typed : Typed g) where
    pub region_back : (r : ℕ) → r < regions → region_in (region_laid g r) ≡ region_said g r
    unfolding region_in region_said gapless
    region_back r h =
        let cell = region_cell g r in
        let separation : fits region_separation (cell 0) ≡ true = ap (λ (f : RegionWidths). f.separation) (fit.region r h) in
        let amounts = ap (λ (f : RegionWidths). f.amounts) (fit.region r h) in
        let at = back (region_filled g r) refl in
        let default : (i : ℕ) → i < 6 → integer_at 8 (20 + 8 * i) (region_laid g r) ≡ cell (3 + i) =
        λ i l. ap (signed 8) (at 5 i tt l) ∙ turned_is (2 ^ 63) (cell (3 + i)) (typed.region_rows _) in
        let mark : (i : ℕ) → i < 10 → number_at 1 (2 + i) (region_laid g r) ≡ region_mark g r i =
        λ i l. ap (λ (k : ℕ). number_at 1 (2 + k) (region_laid g r)) (sym (one-mul i)) ∙ at 2 i tt l ∙ mod-eq_of_lt (typed.region_qualities _) in
        let quality : quality_in 2 (region_laid g r) ≡ quality_said (region_mark g r) =
        listed_alike 0 points _ _ (λ t l. ap (bit (t % 8)) (mark (t / 8) (omega arith))) in
        let frequency : listed 0 points (λ t. number_at 4 (68 + 4 * t) (region_laid g r)) ≡ listed 0 points (frequency_given g r) =
        listed_alike 0 points _ _ (λ t l. at 6 t tt (omega arith) ∙ mod-eq_of_lt (typed.frequencies _)) in
        rw (
          at 1 0 tt (lit< tt) ∙ word_is (2 ^ 8) (cell 0) separation,
          quality,
          ap (signed 4) (at 3 0 tt (lit< tt)) ∙ signed_word_is (2 ^ 31) (cell 1) (search first_of depth 9),
          at 4 0 tt (lit< tt) ∙ word_is (2 ^ 32) (cell 2) (search (first_of, second_of) depth 9),
          default 0 (lit< tt),
          default 1 (lit< tt),
          default 2 (lit< tt),
          default 3 (lit< tt),
          default 4 (lit< tt),
          default 5 (lit< tt),
          frequency,
        )

    pub unit_back : (j : ℕ) → j < g.units → unit_in (unit_laid g j) ≡ unit_said g j
    unfolding unit_in unit_said gapless
    unit_back j h =
        let cell = unit_cell g j in
        let header = ap (λ (f : UnitWidths). f.header) (fit.unit j h) in
        let group : fits unit_group (cell 5) ≡ true = ap (λ (f : UnitWidths). f.group) (fit.unit j h) in
        let number : fits unit_number (cell 0) ≡ true = ap (λ (f : UnitWidths). f.number) (fit.unit j h) in
        let at = back (unit_filled g j) refl in
        let default : (i : ℕ) → i < 6 → integer_at 8 (12 + 8 * i) (unit_laid g j) ≡ cell (6 + i) =
        λ i l. ap (signed 8) (at 4 i tt l) ∙ turned_is (2 ^ 63) (cell (6 + i)) (typed.unit_rows _) in
        let mark : (i : ℕ) → i < 10 → number_at 1 (60 + i) (unit_laid g j) ≡ unit_mark g j i =
        λ i l. ap (λ (k : ℕ). number_at 1 (60 + k) (unit_laid g j)) (sym (one-mul i)) ∙ at 5 i tt l ∙ mod-eq_of_lt (typed.unit_qualities _) in
        let quality : quality_in 60 (unit_laid g j) ≡ quality_said (unit_mark g j) =
        listed_alike 0 points _ _ (λ t l. ap (bit (t % 8)) (mark (t / 8) (omega arith))) in
        let reading : listed 0 points (λ t. integer_at 4 (72 + 4 * t) (unit_laid g j)) ≡ listed 0 points (reading_given g j) =
        listed_alike 0 points _ _ (λ t l. ap (signed 4) (at 7 t tt (omega arith)) ∙ turned_is (2 ^ 31) (reading_given g j t) (typed.readings _)) in
        rw (
          at 0 0 tt (lit< tt) ∙ word_is (2 ^ 16) (cell 0) number,
          at 1 0 tt (lit< tt) ∙ word_is (2 ^ 8) (cell 1) (search (first_of, second_of) depth 9),
          at 2 0 tt (lit< tt) ∙ word_is (2 ^ 8) (cell 2) (search (first_of, second_of) depth 9),
          ap (signed 4) (at 3 0 tt (lit< tt)) ∙ signed_word_is (2 ^ 31) (cell 3) (search (first_of, second_of) depth 9),
          ap (signed 4) (at 3 1 tt (lit< tt)) ∙ signed_word_is (2 ^ 31) (cell 4) (search (first_of, second_of) depth 9),
          default 0 (lit< tt),
          default 1 (lit< tt),
          default 2 (lit< tt),
          default 3 (lit< tt),
          default 4 (lit< tt),
          default 5 (lit< tt),
          quality,
          at 6 0 tt (lit< tt) ∙ word_is (2 ^ 16) (cell 5) group,
          reading,
        )
