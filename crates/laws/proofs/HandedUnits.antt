-- A unit record that was read, its values handed in again: every number fits its field, and what is laid out is the record's bytes.
use mathlib.Core.Path.{◌≡◌, refl, sym, ◌∙◌, ap}
use mathlib.Core.Bool.{true}
use mathlib.Core.List.{List}
use Prim.Native.Nat.{ℕ, zero, suc, ◌+◌, ◌*◌, ◌^◌, ◌≤◌, ◌<◌}
use native.Mathlib.Nat.{one-mul}
use native.Mathlib.Omega.{arith}
use lib.IntN.{pos}
use lib.ListN.{length, get_or, take}
use Rattle.integers.proofs.Sums.{none_below}
use Rattle.rules.specs.Quantities.{points}
use Rattle.rules.specs.Bytes.{number_at, integer_at}
use Rattle.rules.specs.Layout.{unit_number, unit_region, unit_kind, unit_group}
use Rattle.rules.specs.Fields.{quality_in}
use Rattle.rules.specs.UnitRecord.{unit_in, kind_of}
use Rattle.rules.specs.Given.{Given, unit_cell, unit_mark, reading_given}
use Rattle.rules.specs.Written.{unit_filled, unit_laid, unit_widths}
use Rattle.rules.specs.Said.{mark_handed, kind_handed, unit_handed}
use Rattle.laws.proofs.BytesLaws.{number_below}
use Rattle.laws.proofs.LaidLaws.{size_of, gapless}
use Rattle.laws.proofs.LaidTaken.{Bytes, done, ◌then◌, laid_taken}
use Rattle.laws.proofs.HandedLaws.{mark_back}
use Rattle.laws.proofs.HandedNumbers.{below_of, held_signed, halved_of, turned_of, at_two, at_six, one_held}

kind_back : (n : ℕ) → n ≤ 1 → kind_handed (kind_of n) ≡ pos n
kind_back zero h = refl
kind_back (suc zero) h = refl
kind_back (suc (suc n)) h = none_below n (omega arith)

module _
    (g : Given) (j : ℕ) (bs : List ℕ) (byte : Bytes bs)
    (cells : (c : ℕ) → c < 12 → unit_cell g j c ≡ get_or (unit_handed (unit_in bs)) c (pos 0))
    (marks : (i : ℕ) → i < 10 → unit_mark g j i ≡ mark_handed (quality_in 60 bs) i)
    (values : (t : ℕ) → t < points → reading_given g j t ≡ integer_at 4 (72 + 4 * t) bs)
    (kind : number_at 1 3 bs ≤ 1)
    (spare : number_at 1 69 bs ≤ 7) where
  abbrev short : (n p : ℕ) → number_at n p bs < 256 ^ n
  short n p = number_below n p bs byte

  number_cell : unit_cell g j 0 ≡ pos (number_at 2 0 bs)
  unfolding unit_in
  number_cell = cells 0 (omega arith)

  region_cell_is : unit_cell g j 1 ≡ pos (number_at 1 2 bs)
  unfolding unit_in
  region_cell_is = cells 1 (omega arith)

  kind_cell : unit_cell g j 2 ≡ pos (number_at 1 3 bs)
  unfolding unit_in
  kind_cell = cells 2 (omega arith) ∙ kind_back (number_at 1 3 bs) kind

  trajectory_cell : (i : ℕ) → i < 2 → unit_cell g j (3 + i) ≡ integer_at 4 (4 + 4 * i) bs
  unfolding unit_in
  trajectory_cell = at_two (λ i. unit_cell g j (3 + i) ≡ integer_at 4 (4 + 4 * i) bs) (cells 3 (omega arith)) (cells 4 (omega arith))

  group_cell : unit_cell g j 5 ≡ pos (number_at 2 70 bs)
  unfolding unit_in
  group_cell = cells 5 (omega arith)

  unit_default_cell : (i : ℕ) → i < 6 → unit_cell g j (6 + i) ≡ integer_at 8 (12 + 8 * i) bs
  unfolding unit_in
  unit_default_cell =
      at_six (λ i. unit_cell g j (6 + i) ≡ integer_at 8 (12 + 8 * i) bs) (cells 6 (omega arith)) (cells 7 (omega arith)) (cells 8 (omega arith))
      (cells 9 (omega arith)) (cells 10 (omega arith)) (cells 11 (omega arith))

  pub unit_widths_again : unit_widths g j ≡ record { header = true; group = true; number = true }
  unit_widths_again =
      rw (
        below_of (2 ^ 8) (number_at 1 2 bs) (unit_cell g j 1) region_cell_is (short 1 2),
        below_of (2 ^ 8) (number_at 1 3 bs) (unit_cell g j 2) kind_cell (short 1 3),
        halved_of (2 ^ 31) (number_at 4 4 bs) (unit_cell g j 3) (trajectory_cell 0 (omega arith)) (short 4 4),
        halved_of (2 ^ 31) (number_at 4 8 bs) (unit_cell g j 4) (trajectory_cell 1 (omega arith)) (short 4 8),
        below_of (2 ^ 16) (number_at 2 70 bs) (unit_cell g j 5) group_cell (short 2 70),
        below_of (2 ^ 16) (number_at 2 0 bs) (unit_cell g j 0) number_cell (short 2 0),
      )

  pub unit_again : 372 ≤ length bs → unit_laid g j ≡ take 372 bs
  unfolding gapless size_of
  unit_again whole =
      laid_taken 0 (unit_filled g j) bs refl whole byte
      (one_held unit_number (2 ^ 16) (unit_cell g j 0) bs number_cell (short 2 0)
      then one_held unit_region (2 ^ 8) (unit_cell g j 1) bs region_cell_is (short 1 2)
      then one_held unit_kind (2 ^ 8) (unit_cell g j 2) bs kind_cell (short 1 3)
      then (λ i l. held_signed (2 ^ 31) (number_at 4 (4 + 4 * i) bs) (unit_cell g j (3 + i)) (trajectory_cell i l) (short 4 (4 + 4 * i)))
      then (λ i l. turned_of (2 ^ 63) (number_at 8 (12 + 8 * i) bs) (unit_cell g j (6 + i)) (unit_default_cell i l) (short 8 (12 + 8 * i)))
      then (λ i l. marks i l ∙ mark_back 60 bs byte spare i l ∙ ap (λ (k : ℕ). number_at 1 (60 + k) bs) (sym (one-mul i)))
      then one_held unit_group (2 ^ 16) (unit_cell g j 5) bs group_cell (short 2 70)
      then (λ t l. turned_of (2 ^ 31) (number_at 4 (72 + 4 * t) bs) (reading_given g j t) (values t l) (short 4 (72 + 4 * t)))
      then done)
