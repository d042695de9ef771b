-- What the reader went through in a table of contents that it takes: the table is the one that its counts lay out.
use mathlib.Core.Path.{◌≡◌, refl, sym, ◌∙◌, ap, subst}
use mathlib.Core.Bool.{◌&&◌}
use mathlib.Core.List.{List}
use Prim.Native.Nat.{ℕ, ◌+◌, ◌*◌, ◌≤◌}
use native.Mathlib.Omega.{arith}
use lib.Dec.{leb, eqb}
use lib.ListN.{length, take}
use borrow.Author.Tests.{leb-true, eqb-true}
use Rattle.integers.specs.Sums.{both}
use Rattle.rules.specs.declared.Refusal.TheVariants.{EndsEarly, WrongMark, WrongTable, WrongCount}
use Rattle.rules.specs.Quantities.{most_units, most_requirements}
use Rattle.rules.specs.Bytes.{number_at}
use Rattle.rules.specs.Layout.{Field, book_mark, entry_count, zero_field, entry_kind, entry_items, entry_offset, entry_length}
use Rattle.rules.specs.Refusals.{Reply, taken}
use Rattle.rules.specs.Contents.{Counts, contents, contents_size, mark, items, entry, requirement_start, unit_size, requirement_size}
use Rattle.rules.specs.Laid.{laid, ◌is◌}
use Rattle.rules.specs.Written.{contents_filled}
use Rattle.laws.proofs.LimitsLaws.{passed, took}
use Rattle.laws.proofs.LaidLaws.{size_of, gapless}
use Rattle.laws.proofs.LaidTaken.{Bytes, Read, Reads, done, ◌then◌, laid_taken}

-- an entry that was taken
record EntryRead (place kind least most start size : ℕ) (bs : List ℕ) : Type 0 where
  kind_is : number_at 2 place bs ≡ kind
  some : least ≤ items place bs
  few : items place bs ≤ most
  starts : number_at 4 (place + 4) bs ≡ start
  long : number_at 4 (place + 8) bs ≡ items place bs * size

entry_read : {A : Type 0} (place kind least most start size : ℕ) (bs : List ℕ) (rest : Reply A) (a : A) →
    entry place kind least most start size bs rest ≡ taken a → EntryRead place kind least most start size bs × (rest ≡ taken a)
entry_read place kind least most start size bs rest a e =
    let named = passed (eqb (number_at 2 place bs) kind) WrongTable _ a e in
    let counts = passed (leb least (items place bs) && leb (items place bs) most) WrongCount _ a named.1 in
    let starts = passed (eqb (number_at 4 (place + 4) bs) start) WrongTable _ a counts.1 in
    let ends = passed (eqb (number_at 4 (place + 8) bs) (items place bs * size)) WrongTable _ a starts.1 in
    let within = both (leb least (items place bs)) (leb (items place bs) most) counts.0 in (
      record {
        kind_is = eqb-true _ _ named.0;
        some = leb-true _ _ within.0;
        few = leb-true _ _ within.1;
        starts = eqb-true _ _ starts.0;
        long = eqb-true _ _ ends.0;
      },
      ends.1,
    )

pub record ContentsRead (bs : List ℕ) (c : Counts) : Type 0 where
  pub few : c.units ≤ most_units
  pub some : 1 ≤ c.requirements
  pub most : c.requirements ≤ most_requirements
  pub bytes : laid (contents_filled c.units c.requirements) ≡ take contents_size bs

-- a field of one number
alone : (f : Field) (x : ℕ) (bs : List ℕ) → f.count ≡ 1 → number_at f.width (f.place + f.width * 0) bs ≡ x → Read bs (f is x)
alone f x bs one e i h =
    let first : i ≡ 0 = omega arith in
    sym e ∙ ap (λ (k : ℕ). number_at f.width (f.place + f.width * k) bs) (sym first)

pub contents_read : (bs : List ℕ) (c : Counts) → Bytes bs → contents bs ≡ taken c → ContentsRead bs c
unfolding contents size_of gapless
contents_read bs c below e =
    let whole = passed (leb contents_size (length bs)) EndsEarly _ c e in
    let marked = passed (eqb (number_at 4 0 bs) mark) WrongMark _ c whole.1 in
    let entries = passed (eqb (number_at 2 4 bs) 4) WrongTable _ c marked.1 in
    let header = passed (eqb (number_at 2 6 bs) 0) WrongTable _ c entries.1 in
    let settings = entry_read 8 1 1 1 _ _ bs _ c header.1 in
    let frequency = entry_read 20 2 5 5 _ _ bs _ c settings.1 in
    let unit = entry_read 32 3 0 most_units _ _ bs _ c frequency.1 in
    let requirement = entry_read 44 4 1 most_requirements _ _ bs _ c unit.1 in
    let u = items 32 bs in
    let q = items 44 bs in
    let one_settings : number_at 2 10 bs ≡ 1 = omega (arith, settings.0.some, settings.0.few) in
    let five_regions : number_at 2 22 bs ≡ 5 = omega (arith, frequency.0.some, frequency.0.few) in
    let settings_long : number_at 4 16 bs ≡ 8 = settings.0.long ∙ ap (λ (n : ℕ). n * 8) one_settings in
    let regions_long : number_at 4 28 bs ≡ 1840 = frequency.0.long ∙ ap (λ (n : ℕ). n * 368) five_regions in
    let fields : Reads bs (contents_filled u q) =
    alone book_mark mark bs refl (eqb-true _ _ marked.0) then
    alone entry_count 4 bs refl (eqb-true _ _ entries.0) then
    alone zero_field 0 bs refl (eqb-true _ _ header.0) then
    alone (entry_kind 8) 1 bs refl settings.0.kind_is then
    alone (entry_items 8) 1 bs refl one_settings then
    alone (entry_offset 8) 56 bs refl settings.0.starts then
    alone (entry_length 8) 8 bs refl settings_long then
    alone (entry_kind 20) 2 bs refl frequency.0.kind_is then
    alone (entry_items 20) 5 bs refl five_regions then
    alone (entry_offset 20) 64 bs refl frequency.0.starts then
    alone (entry_length 20) 1840 bs refl regions_long then
    alone (entry_kind 32) 3 bs refl unit.0.kind_is then
    alone (entry_items 32) u bs refl refl then
    alone (entry_offset 32) 1904 bs refl unit.0.starts then
    alone (entry_length 32) (u * unit_size) bs refl unit.0.long then
    alone (entry_kind 44) 4 bs refl requirement.0.kind_is then
    alone (entry_items 44) q bs refl refl then
    alone (entry_offset 44) (requirement_start u) bs refl requirement.0.starts then
    alone (entry_length 44) (q * requirement_size) bs refl requirement.0.long then
    done in
    subst (ContentsRead bs) (took requirement.1)
    (record {
      few = unit.0.few;
      some = requirement.0.some;
      most = requirement.0.few;
      bytes = laid_taken 0 (contents_filled u q) bs refl (leb-true _ _ whole.0) below fields;
    })
