-- A book that was read, its values handed in again: every number fits, nothing is too short, and what is laid out is the book's bytes.
use mathlib.Core.Path.{◌≡◌, refl, sym, ◌∙◌, ap, ap₂}
use mathlib.Core.Bool.{true, false}
use mathlib.Core.List.{List, [], ◌++◌}
use Prim.Native.Nat.{ℕ, zero, suc, ◌+◌, ◌*◌, ◌≤◌, ◌<◌}
use native.Mathlib.Nat.{zero-add}
use native.Mathlib.Omega.{arith}
use lib.IntN.{pos}
use lib.ListN.{length, take, drop, get_or, length-drop, take-append-drop}
use lib.Seq.{take_all, drop-drop}
use borrow.Author.Tests.{le-leb}
use Rattle.integers.proofs.Sums.{none_below}
use Rattle.rules.specs.Quantities.{points, regions, most_units, most_requirements}
use Rattle.rules.specs.Refusals.{taken}
use Rattle.rules.specs.Book.{Settings, Requirement, Book, no_region}
use Rattle.rules.specs.Contents.{Counts, contents, requirement_start, requirement_size}
use Rattle.rules.specs.SettingsRecord.{settings}
use Rattle.rules.specs.UnitRecord.{unit_in}
use Rattle.rules.specs.RequirementRecord.{requirement_in}
use Rattle.rules.specs.WholeBook.{frequency_body, unit_body, requirement_body}
use Rattle.rules.specs.Laid.{strung, laid}
use Rattle.rules.specs.Written.{contents_filled, settings_filled, region_laid, unit_laid, requirement_laid, book_laid, book_size, long_enough, counts_fine}
use Rattle.rules.specs.Said.{Fit, handed}
use Rattle.laws.proofs.LaidTaken.{Bytes, bytes_behind}
use Rattle.laws.proofs.BodiesRead.{
  SettingsRead,
  RegionRead,
  UnitRead,
  RequirementRead,
  settings_read,
  regions_read,
  units_read,
  requirements_read,
  requirements_end,
}
use Rattle.laws.proofs.ContentsRead.{ContentsRead, contents_read}
use Rattle.laws.proofs.HandedRecords.{settings_fits_again, settings_again}
use Rattle.laws.proofs.HandedBodies.{
  region_widths_handed,
  regions_handed,
  regions_long,
  unit_widths_handed,
  units_handed,
  units_long,
  requirement_widths_handed,
  requirements_handed,
  requirements_long,
}

-- a part, and what is behind it
join : (p n : ℕ) (bs : List ℕ) → take n (drop p bs) ++ drop (p + n) bs ≡ drop p bs
join p n bs = ap (λ (l : List ℕ). take n (drop p bs) ++ l) (sym (drop-drop n p bs)) ∙ take-append-drop n (drop p bs)

last_ends : (n : ℕ) (xs : List ℕ) (qs : List Requirement) → 1 ≤ n → requirement_body n 1 0 xs ≡ taken qs → length xs ≡ n * requirement_size
last_ends zero xs qs h e = none_below 0 h
last_ends (suc n) xs qs h e = requirements_end n 1 0 xs qs e

module _
    (bs : List ℕ) (b : Book) (c : Counts) (byte : Bytes bs) (table_read : contents bs ≡ taken c)
    (first_read : settings (drop 56 bs) ≡ taken b.settings) (rs_read : frequency_body regions 0 (drop 64 bs) ≡ taken b.regions)
    (us_read : unit_body c.units 1 0 [] (drop 1904 bs) ≡ taken b.roster)
    (qs_read : requirement_body c.requirements 1 0 (drop (requirement_start c.units) bs) ≡ taken b.requirements) where
  table : ContentsRead bs c
  table = contents_read bs c byte table_read

  first : SettingsRead (drop 56 bs) b.settings
  first = settings_read (drop 56 bs) b.settings first_read

  five : length b.regions ≡ regions
  five = (regions_read no_region regions 0 (drop 64 bs) b.regions rs_read).0

  region_there : (i : ℕ) → i < regions → RegionRead i (drop (368 * i) (drop 64 bs)) (get_or b.regions i no_region)
  region_there i l = rw zero-add at ((regions_read no_region regions 0 (drop 64 bs) b.regions rs_read).1 i l)

  units_are : length b.roster ≡ c.units
  units_are = (units_read (unit_in []) c.units 1 0 [] (drop 1904 bs) b.roster us_read).0

  unit_there : (i : ℕ) → i < length b.roster → UnitRead (drop (372 * i) (drop 1904 bs)) (get_or b.roster i (unit_in []))
  unit_there i l = (units_read (unit_in []) c.units 1 0 [] (drop 1904 bs) b.roster us_read).1 i (omega (arith, units_are))

  requirements_are : length b.requirements ≡ c.requirements
  requirements_are = (requirements_read (requirement_in []) c.requirements 1 0 (drop (requirement_start c.units) bs) b.requirements qs_read).0

  requirement_there : (i : ℕ) → i < length b.requirements →
      RequirementRead false (drop (24 * i) (drop (requirement_start c.units) bs)) (get_or b.requirements i (requirement_in []))
  requirement_there i l =
      (requirements_read (requirement_in []) c.requirements 1 0 (drop (requirement_start c.units) bs) b.requirements qs_read).1 i (omega
      (arith, requirements_are))

  -- the bytes end where the requirements do
  ends : length (drop (requirement_start c.units) bs) ≡ c.requirements * requirement_size
  ends = last_ends c.requirements (drop (requirement_start c.units) bs) b.requirements table.some qs_read

  size : length bs ≡ book_size (length b.roster) (length b.requirements)
  size = omega (arith, ends, length-drop (requirement_start c.units) bs, units_are, requirements_are, table.some)

  pub laid_again : book_laid (handed b) ≡ bs
  unfolding book_laid
  laid_again =
      let u = length b.roster in
      let q = length b.requirements in
      let first_is = first.went.is in
      let start : requirement_start c.units ≡ 1904 + u * 372 = ap requirement_start (sym units_are) in
      let table_laid : laid (contents_filled u q) ≡ take 56 bs =
      ap₂ (λ (m n : ℕ). laid (contents_filled m n)) units_are requirements_are ∙ table.bytes in
      let settings_laid : laid (settings_filled (handed b)) ≡ take 8 (drop 56 bs) =
      settings_again (handed b) (drop 56 bs) (bytes_behind 56 bs byte) (ap (λ (s : Settings). pos s.smoothing) (sym first_is))
      (ap (λ (s : Settings). pos s.limit) (sym first_is)) (ap (λ (s : Settings). pos s.percent) (sym first_is))
      (ap (λ (s : Settings). pos s.interval) (sym first_is)) first.whole in
      let regions_laid : strung 0 regions (region_laid (handed b)) ≡ take 1840 (drop 64 bs) =
      regions_handed b no_region regions (drop 64 bs) (bytes_behind 64 bs byte) five region_there in
      let units_laid : strung 0 u (unit_laid (handed b)) ≡ take (u * 372) (drop 1904 bs) =
      units_handed b (unit_in []) u (drop 1904 bs) (bytes_behind 1904 bs byte) refl unit_there in
      let requirements_laid : strung 0 q (requirement_laid (handed b)) ≡ drop (1904 + u * 372) bs =
      requirements_handed b (requirement_in []) q (drop (requirement_start c.units) bs) (bytes_behind (requirement_start c.units) bs byte) refl
      requirement_there ∙ take_all (q * 24) (drop (requirement_start c.units) bs) (omega (arith, ends, requirements_are))
      ∙ ap (λ (p : ℕ). drop p bs) start in
      ap₂ ◌++◌ table_laid (ap₂ ◌++◌ settings_laid (ap₂ ◌++◌ regions_laid (ap₂ ◌++◌ units_laid requirements_laid ∙ join 1904 (u * 372) bs) ∙ join 64 1840 bs)
      ∙ join 56 8 bs) ∙ join 0 56 bs

  pub fit_again : Fit (handed b)
  fit_again =
      let first_is = first.went.is in
      record {
        settings =
            settings_fits_again (handed b) (drop 56 bs) (bytes_behind 56 bs byte) (ap (λ (s : Settings). pos s.smoothing) (sym first_is))
            (ap (λ (s : Settings). pos s.limit) (sym first_is)) (ap (λ (s : Settings). pos s.percent) (sym first_is))
            (ap (λ (s : Settings). pos s.interval) (sym first_is));
        region = region_widths_handed b no_region regions (drop 64 bs) (bytes_behind 64 bs byte) five region_there;
        unit = unit_widths_handed b (unit_in []) (length b.roster) (drop 1904 bs) (bytes_behind 1904 bs byte) refl unit_there;
        requirement =
            requirement_widths_handed b (requirement_in []) (length b.requirements) (drop (requirement_start c.units) bs) (bytes_behind
            (requirement_start c.units) bs byte) refl requirement_there;
      }

  pub counts_again : counts_fine (handed b) ≡ true
  counts_again =
      rw (
        le-leb (length b.roster) most_units (omega (arith, units_are, table.few)),
        le-leb 1 (length b.requirements) (omega (arith, requirements_are, table.some)),
        le-leb (length b.requirements) most_requirements (omega (arith, requirements_are, table.most)),
      )

  pub long_again : (room : ℕ) → length bs ≤ room → long_enough (handed b) room ≡ true
  long_again room h =
      let g = handed b in
      let rs = regions_long b no_region regions (drop 64 bs) (bytes_behind 64 bs byte) five region_there in
      let us = units_long b (unit_in []) g.units (drop 1904 bs) (bytes_behind 1904 bs byte) refl unit_there in
      let qs = requirements_long b (requirement_in []) g.requirements (drop (requirement_start c.units) bs) (bytes_behind (requirement_start
      c.units) bs byte) refl requirement_there in
      rw (
        le-leb (book_size g.units g.requirements) room (omega (arith, size)),
        le-leb 45 (length g.region_rows) (omega (arith, rs.0)),
        le-leb 50 (length g.region_qualities) (omega (arith, rs.1)),
        le-leb 375 (length g.frequencies) (omega (arith, rs.2)),
        le-leb (12 * g.units) (length g.unit_rows) (omega (arith, us.0)),
        le-leb (10 * g.units) (length g.unit_qualities) (omega (arith, us.1)),
        le-leb (points * g.units) (length g.readings) (omega (arith, us.2)),
        le-leb (7 * g.requirements) (length g.requirement_rows) (omega (arith, qs)),
      )
