-- Bodies that were read, their records handed in again: every number fits, the lists are as long as the counts ask, and what is laid out is the bodies' bytes.
use mathlib.Core.Path.{◌≡◌, refl, sym, ◌∙◌, ap}
use mathlib.Core.Bool.{true, false}
use mathlib.Core.List.{List}
use Prim.Native.Nat.{ℕ, ◌+◌, ◌*◌, ◌<◌}
use native.Mathlib.Nat.{zero-add}
use native.Mathlib.Omega.{arith}
use lib.IntN.{pos}
use lib.ListN.{length, get_or, take, drop}
use Rattle.rules.specs.Quantities.{points}
use Rattle.rules.specs.Bytes.{number_at, integer_at}
use Rattle.rules.specs.Book.{Region, Unit, Requirement, Book}
use Rattle.rules.specs.FrequencyRecord.{region_in}
use Rattle.rules.specs.UnitRecord.{unit_in}
use Rattle.rules.specs.RequirementRecord.{requirement_in}
use Rattle.rules.specs.Fields.{quality_in}
use Rattle.rules.specs.Laid.{strung}
use Rattle.rules.specs.Given.{region_cell, unit_cell, requirement_cell, region_mark, unit_mark, frequency_given, reading_given}
use Rattle.rules.specs.Written.{region_laid, unit_laid, requirement_laid, region_widths, unit_widths, requirement_widths}
use Rattle.rules.specs.Said.{handed, mark_handed, marks_handed, region_handed, unit_handed, requirement_handed}
use Rattle.laws.proofs.BytesLaws.{listed_from_zero}
use Rattle.laws.proofs.BodiesRead.{RegionRead, UnitRead, RequirementRead}
use Rattle.laws.proofs.LaidTaken.{Bytes, bytes_behind, strung_taken}
use Rattle.laws.proofs.HandedLaws.{listed_length, chained_length, chained_at}
use Rattle.laws.proofs.HandedRecords.{region_widths_again, region_again, requirement_widths_again, requirement_again}
use Rattle.laws.proofs.HandedUnits.{unit_widths_again, unit_again}

-- ---- the regions
module _
    (b : Book) (none : Region) (n : ℕ) (xs : List ℕ) (byte : Bytes xs) (many : length b.regions ≡ n)
    (read : (i : ℕ) → i < n → RegionRead i (drop (368 * i) xs) (get_or b.regions i none)) where
  region_long : (k : ℕ) → k < length b.regions → length (get_or b.regions k none).frequency ≡ points
  unfolding region_in
  region_long k l = ap (λ (r : Region). length r.frequency) (sym (read k (omega arith)).went.is) ∙ listed_length 0 points _

  module _ (r : ℕ) (l : r < n) where
    region_cells : (c : ℕ) → c < 9 → region_cell (handed b) r c ≡ get_or (region_handed (region_in (drop (368 * r) xs))) c (pos 0)
    region_cells c h =
        chained_at none (pos 0) 9 region_handed b.regions (λ k m. refl) r c (omega arith) h
        ∙ ap (λ (x : Region). get_or (region_handed x) c (pos 0)) (sym (read r l).went.is)

    region_marks : (i : ℕ) → i < 10 → region_mark (handed b) r i ≡ mark_handed (quality_in 2 (drop (368 * r) xs)) i
    unfolding region_in
    region_marks i h =
        chained_at none 0 10 (λ x. marks_handed x.quality) b.regions (λ k m. listed_length 0 10 _) r i (omega arith) h
        ∙ listed_from_zero 10 (mark_handed (get_or b.regions r none).quality) i 0 h
        ∙ ap (λ (x : Region). mark_handed x.quality i) (sym (read r l).went.is)

    region_values : (t : ℕ) → t < points → frequency_given (handed b) r t ≡ number_at 4 (68 + 4 * t) (drop (368 * r) xs)
    unfolding region_in
    region_values t h =
        chained_at none 0 points (λ x. x.frequency) b.regions region_long r t (omega arith) h
        ∙ ap (λ (x : Region). get_or x.frequency t 0) (sym (read r l).went.is)
        ∙ listed_from_zero points (λ t. number_at 4 (68 + 4 * t) (drop (368 * r) xs)) t 0 h

    pub region_widths_handed : region_widths (handed b) r ≡ record { separation = true; amounts = true }
    region_widths_handed =
        let x = (read r l).went in
        region_widths_again (handed b) r (drop (368 * r) xs) (bytes_behind (368 * r) xs byte) region_cells region_marks region_values x.placed x.separated
        x.spare

    region_laid_handed : region_laid (handed b) r ≡ take 368 (drop (368 * r) xs)
    region_laid_handed =
        let x = (read r l).went in
        region_again (handed b) r (drop (368 * r) xs) (bytes_behind (368 * r) xs byte) region_cells region_marks region_values x.placed x.separated
        x.spare (read r l).whole

  pub regions_handed : strung 0 n (region_laid (handed b)) ≡ take (n * 368) xs
  regions_handed =
      strung_taken 368 n 0 (region_laid (handed b)) xs (λ i l. ap (region_laid (handed b)) (zero-add i) ∙ region_laid_handed i l)

  pub regions_long : (length (handed b).region_rows ≡ 9 * n) × (length (handed b).region_qualities ≡ 10 * n) × (length (handed b).frequencies ≡ points * n)
  regions_long = (
    omega (arith, chained_length none (pos 0) 9 region_handed b.regions (λ k m. refl)),
    omega (arith, chained_length none 0 10 (λ x. marks_handed x.quality) b.regions (λ k m. listed_length 0 10 _)),
    omega (arith, chained_length none 0 points (λ x. x.frequency) b.regions region_long),
  )

-- ---- the units
module _
    (b : Book) (none : Unit) (n : ℕ) (xs : List ℕ) (byte : Bytes xs) (many : length b.roster ≡ n)
    (read : (i : ℕ) → i < n → UnitRead (drop (372 * i) xs) (get_or b.roster i none)) where
  unit_long : (k : ℕ) → k < length b.roster → length (get_or b.roster k none).reading ≡ points
  unfolding unit_in
  unit_long k l = ap (λ (u : Unit). length u.reading) (sym (read k (omega arith)).went.is) ∙ listed_length 0 points _

  module _ (j : ℕ) (l : j < n) where
    unit_cells : (c : ℕ) → c < 12 → unit_cell (handed b) j c ≡ get_or (unit_handed (unit_in (drop (372 * j) xs))) c (pos 0)
    unit_cells c h =
        chained_at none (pos 0) 12 unit_handed b.roster (λ k m. refl) j c (omega arith) h
        ∙ ap (λ (u : Unit). get_or (unit_handed u) c (pos 0)) (sym (read j l).went.is)

    unit_marks : (i : ℕ) → i < 10 → unit_mark (handed b) j i ≡ mark_handed (quality_in 60 (drop (372 * j) xs)) i
    unfolding unit_in
    unit_marks i h =
        chained_at none 0 10 (λ u. marks_handed u.quality) b.roster (λ k m. listed_length 0 10 _) j i (omega arith) h
        ∙ listed_from_zero 10 (mark_handed (get_or b.roster j none).quality) i 0 h
        ∙ ap (λ (u : Unit). mark_handed u.quality i) (sym (read j l).went.is)

    unit_values : (t : ℕ) → t < points → reading_given (handed b) j t ≡ integer_at 4 (72 + 4 * t) (drop (372 * j) xs)
    unfolding unit_in
    unit_values t h =
        chained_at none (pos 0) points (λ u. u.reading) b.roster unit_long j t (omega arith) h
        ∙ ap (λ (u : Unit). get_or u.reading t (pos 0)) (sym (read j l).went.is)
        ∙ listed_from_zero points (λ t. integer_at 4 (72 + 4 * t) (drop (372 * j) xs)) t (pos 0) h

    pub unit_widths_handed : unit_widths (handed b) j ≡ record { header = true; group = true; number = true }
    unit_widths_handed =
        let u = (read j l).went in
        unit_widths_again (handed b) j (drop (372 * j) xs) (bytes_behind (372 * j) xs byte) unit_cells unit_marks unit_values u.kind u.spare

    unit_laid_handed : unit_laid (handed b) j ≡ take 372 (drop (372 * j) xs)
    unit_laid_handed =
        let u = (read j l).went in
        unit_again (handed b) j (drop (372 * j) xs) (bytes_behind (372 * j) xs byte) unit_cells unit_marks unit_values u.kind u.spare (read j l).whole

  pub units_handed : strung 0 n (unit_laid (handed b)) ≡ take (n * 372) xs
  units_handed = strung_taken 372 n 0 (unit_laid (handed b)) xs (λ i l. ap (unit_laid (handed b)) (zero-add i) ∙ unit_laid_handed i l)

  pub units_long : (length (handed b).unit_rows ≡ 12 * n) × (length (handed b).unit_qualities ≡ 10 * n) × (length (handed b).readings ≡ points * n)
  units_long = (
    omega (arith, chained_length none (pos 0) 12 unit_handed b.roster (λ k m. refl)),
    omega (arith, chained_length none 0 10 (λ u. marks_handed u.quality) b.roster (λ k m. listed_length 0 10 _)),
    omega (arith, chained_length none (pos 0) points (λ u. u.reading) b.roster unit_long),
  )

-- ---- the requirements
module _
    (b : Book) (none : Requirement) (n : ℕ) (xs : List ℕ) (byte : Bytes xs) (many : length b.requirements ≡ n)
    (read : (i : ℕ) → i < n → RequirementRead false (drop (24 * i) xs) (get_or b.requirements i none)) where
  module _ (q : ℕ) (l : q < n) where
    requirement_cells : (c : ℕ) → c < 7 → requirement_cell (handed b) q c ≡ get_or (requirement_handed (requirement_in (drop (24 * q) xs))) c (pos 0)
    requirement_cells c h =
        chained_at none (pos 0) 7 requirement_handed b.requirements (λ k m. refl) q c (omega arith) h
        ∙ ap (λ (x : Requirement). get_or (requirement_handed x) c (pos 0)) (sym (read q l).went.is)

    pub requirement_widths_handed : requirement_widths (handed b) q ≡ true
    requirement_widths_handed =
        requirement_widths_again (handed b) q (drop (24 * q) xs) (bytes_behind (24 * q) xs byte) requirement_cells (read q l).went.direction

    requirement_laid_handed : requirement_laid (handed b) q ≡ take 24 (drop (24 * q) xs)
    requirement_laid_handed =
        requirement_again (handed b) q (drop (24 * q) xs) (bytes_behind (24 * q) xs byte) requirement_cells (read q l).went.direction (read q l).whole

  pub requirements_handed : strung 0 n (requirement_laid (handed b)) ≡ take (n * 24) xs
  requirements_handed =
      strung_taken 24 n 0 (requirement_laid (handed b)) xs (λ i l. ap (requirement_laid (handed b)) (zero-add i) ∙ requirement_laid_handed i l)

  pub requirements_long : length (handed b).requirement_rows ≡ 7 * n
  requirements_long = omega (arith, chained_length none (pos 0) 7 requirement_handed b.requirements (λ k m. refl))
