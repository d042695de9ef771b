-- A record that was read, its values handed in again: every number fits its field, and what is laid out is the record's bytes.
use mathlib.Core.Path.{◌≡◌, refl, sym, ◌∙◌, ap}
use mathlib.Core.Bool.{true, ◌&&◌}
use mathlib.Core.List.{List}
use Prim.Native.Nat.{ℕ, zero, suc, ◌+◌, ◌*◌, ◌^◌, ◌≤◌, ◌<◌}
use native.Mathlib.Nat.{one-mul}
use native.Mathlib.Omega.{arith}
use lib.IntN.{ℤ, pos}
use lib.ListN.{length, get_or, take}
use Rattle.integers.proofs.Sums.{none_below}
use Rattle.rules.specs.Quantities.{points}
use Rattle.rules.specs.Bytes.{number_at, integer_at}
use Rattle.rules.specs.Layout.{
  number_in,
  settings_smoothing,
  settings_limit,
  settings_percent,
  settings_interval,
  region_position,
  region_separation,
  region_before,
  region_generation,
  requirement_number,
  requirement_set,
  requirement_direction,
  requirement_price,
  requirement_cost,
  requirement_enabled,
  requirement_used,
}
use Rattle.rules.specs.Fields.{quality_in}
use Rattle.rules.specs.FrequencyRecord.{region_in}
use Rattle.rules.specs.RequirementRecord.{requirement_in, direction_of}
use Rattle.rules.specs.Laid.{laid, fits, signed_word}
use Rattle.rules.specs.Given.{Given, region_cell, requirement_cell, region_mark, frequency_given}
use Rattle.rules.specs.Written.{settings_filled, region_filled, requirement_filled, region_laid, requirement_laid, region_widths, requirement_widths}
use Rattle.rules.specs.Said.{mark_handed, direction_handed, region_handed, requirement_handed}
use Rattle.laws.proofs.BytesLaws.{number_below}
use Rattle.laws.proofs.LaidLaws.{size_of, gapless}
use Rattle.laws.proofs.LaidTaken.{Bytes, done, ◌then◌, laid_taken}
use Rattle.laws.proofs.HandedLaws.{flag_of, mark_back}
use Rattle.laws.proofs.HandedNumbers.{below_of, held_signed, halved_of, turned_of, at_one, at_six, one_held}

-- ---- the settings
module _
    (g : Given) (bs : List ℕ) (byte : Bytes bs) (smoothing : g.smoothing ≡ pos (number_at 2 0 bs)) (limit : g.limit ≡ pos (number_at 1 2 bs))
    (percent : g.percent ≡ pos (number_at 1 3 bs)) (interval : g.interval ≡ pos (number_at 4 4 bs)) where
  pub settings_fits_again :
      fits settings_smoothing g.smoothing && fits settings_limit g.limit && fits settings_percent g.percent && fits settings_interval g.interval
      ≡ true
  settings_fits_again =
      rw (
        below_of (2 ^ 16) (number_at 2 0 bs) g.smoothing smoothing (number_below 2 0 bs byte),
        below_of (2 ^ 8) (number_at 1 2 bs) g.limit limit (number_below 1 2 bs byte),
        below_of (2 ^ 8) (number_at 1 3 bs) g.percent percent (number_below 1 3 bs byte),
        below_of (2 ^ 32) (number_at 4 4 bs) g.interval interval (number_below 4 4 bs byte),
      )

  pub settings_again : 8 ≤ length bs → laid (settings_filled g) ≡ take 8 bs
  unfolding gapless size_of
  settings_again whole =
      laid_taken 0 (settings_filled g) bs refl whole byte
      (one_held settings_smoothing (2 ^ 16) g.smoothing bs smoothing (number_below 2 0 bs byte)
      then one_held settings_limit (2 ^ 8) g.limit bs limit (number_below 1 2 bs byte)
      then one_held settings_percent (2 ^ 8) g.percent bs percent (number_below 1 3 bs byte)
      then one_held settings_interval (2 ^ 32) g.interval bs interval (number_below 4 4 bs byte)
      then done)

-- ---- a frequency record
module _
    (g : Given) (r : ℕ) (bs : List ℕ) (byte : Bytes bs)
    (cells : (c : ℕ) → c < 9 → region_cell g r c ≡ get_or (region_handed (region_in bs)) c (pos 0))
    (marks : (i : ℕ) → i < 10 → region_mark g r i ≡ mark_handed (quality_in 2 bs) i)
    (values : (t : ℕ) → t < points → frequency_given g r t ≡ number_at 4 (68 + 4 * t) bs)
    (placed : number_at 1 0 bs ≡ r)
    (separated : number_at 1 1 bs ≤ 1)
    (spare : number_at 1 11 bs ≤ 7) where
  abbrev small : (n p : ℕ) → number_at n p bs < 256 ^ n
  small n p = number_below n p bs byte

  separation_cell : region_cell g r 0 ≡ pos (number_at 1 1 bs)
  unfolding region_in
  separation_cell = cells 0 (omega arith) ∙ ap pos (flag_of (number_at 1 1 bs) separated)

  before_cell : region_cell g r 1 ≡ integer_at 4 12 bs
  unfolding region_in
  before_cell = cells 1 (omega arith)

  generation_cell : region_cell g r 2 ≡ pos (number_at 4 16 bs)
  unfolding region_in
  generation_cell = cells 2 (omega arith)

  default_cell : (i : ℕ) → i < 6 → region_cell g r (3 + i) ≡ integer_at 8 (20 + 8 * i) bs
  unfolding region_in
  default_cell =
      at_six (λ i. region_cell g r (3 + i) ≡ integer_at 8 (20 + 8 * i) bs) (cells 3 (omega arith)) (cells 4 (omega arith)) (cells 5 (omega arith))
      (cells 6 (omega arith)) (cells 7 (omega arith)) (cells 8 (omega arith))

  pub region_widths_again : region_widths g r ≡ record { separation = true; amounts = true }
  region_widths_again =
      rw (
        below_of (2 ^ 8) (number_at 1 1 bs) (region_cell g r 0) separation_cell (small 1 1),
        halved_of (2 ^ 31) (number_at 4 12 bs) (region_cell g r 1) before_cell (small 4 12),
        below_of (2 ^ 32) (number_at 4 16 bs) (region_cell g r 2) generation_cell (small 4 16),
      )

  pub region_again : 368 ≤ length bs → region_laid g r ≡ take 368 bs
  unfolding gapless size_of
  region_again whole =
      laid_taken 0 (region_filled g r) bs refl whole byte
      (at_one (λ i. r ≡ number_in region_position i bs) (sym placed)
      then one_held region_separation (2 ^ 8) (region_cell g r 0) bs separation_cell (small 1 1)
      then (λ i l. marks i l ∙ mark_back 2 bs byte spare i l ∙ ap (λ (k : ℕ). number_at 1 (2 + k) bs) (sym (one-mul i)))
      then at_one (λ i. signed_word region_before (region_cell g r 1) ≡ number_in region_before i bs)
      (held_signed (2 ^ 31) (number_at 4 12 bs) (region_cell g r 1) before_cell (small 4 12))
      then one_held region_generation (2 ^ 32) (region_cell g r 2) bs generation_cell (small 4 16)
      then (λ i l. turned_of (2 ^ 63) (number_at 8 (20 + 8 * i) bs) (region_cell g r (3 + i)) (default_cell i l) (small 8 (20 + 8 * i)))
      then values
      then done)

-- ---- a requirement record
direction_back : (n : ℕ) → n ≤ 1 → direction_handed (direction_of n) ≡ pos n
direction_back zero h = refl
direction_back (suc zero) h = refl
direction_back (suc (suc n)) h = none_below n (omega arith)

module _
    (g : Given) (q : ℕ) (bs : List ℕ) (byte : Bytes bs)
    (cells : (c : ℕ) → c < 7 → requirement_cell g q c ≡ get_or (requirement_handed (requirement_in bs)) c (pos 0))
    (direction : number_at 1 3 bs ≤ 1) where
  -- a number, or the direction, and its bound
  abbrev cell : ℕ → ℤ
  cell = requirement_cell g q

  requirement_cells : (cell 0 ≡ pos (number_at 2 0 bs)) × (cell 1 ≡ pos (number_at 1 2 bs)) × (cell 2 ≡ pos (number_at 1 3 bs))
      × (cell 3 ≡ pos (number_at 4 4 bs)) × (cell 4 ≡ pos (number_at 8 8 bs)) × (cell 5 ≡ pos (number_at 4 16 bs)) × (cell 6 ≡ pos (number_at 4 20 bs))
  unfolding requirement_in
  requirement_cells = (
    cells 0 (omega arith),
    cells 1 (omega arith),
    cells 2 (omega arith) ∙ direction_back (number_at 1 3 bs) direction,
    cells 3 (omega arith),
    cells 4 (omega arith),
    cells 5 (omega arith),
    cells 6 (omega arith),
  )

  pub requirement_widths_again : requirement_widths g q ≡ true
  requirement_widths_again =
      let from = requirement_cells in
      rw (
        below_of (2 ^ 16) (number_at 2 0 bs) (cell 0) from.0 (number_below 2 0 bs byte),
        below_of (2 ^ 8) (number_at 1 2 bs) (cell 1) from.1 (number_below 1 2 bs byte),
        below_of (2 ^ 8) (number_at 1 3 bs) (cell 2) from.2 (number_below 1 3 bs byte),
        below_of (2 ^ 32) (number_at 4 4 bs) (cell 3) from.3 (number_below 4 4 bs byte),
        below_of (2 ^ 64) (number_at 8 8 bs) (cell 4) from.4 (number_below 8 8 bs byte),
        below_of (2 ^ 32) (number_at 4 16 bs) (cell 5) from.5 (number_below 4 16 bs byte),
        below_of (2 ^ 32) (number_at 4 20 bs) (cell 6) from.6 (number_below 4 20 bs byte),
      )

  pub requirement_again : 24 ≤ length bs → requirement_laid g q ≡ take 24 bs
  unfolding gapless size_of
  requirement_again whole =
      let from = requirement_cells in
      laid_taken 0 (requirement_filled g q) bs refl whole byte
      (one_held requirement_number (2 ^ 16) (cell 0) bs from.0 (number_below 2 0 bs byte)
      then one_held requirement_set (2 ^ 8) (cell 1) bs from.1 (number_below 1 2 bs byte)
      then one_held requirement_direction (2 ^ 8) (cell 2) bs from.2 (number_below 1 3 bs byte)
      then one_held requirement_price (2 ^ 32) (cell 3) bs from.3 (number_below 4 4 bs byte)
      then one_held requirement_cost (2 ^ 64) (cell 4) bs from.4 (number_below 8 8 bs byte)
      then one_held requirement_enabled (2 ^ 32) (cell 5) bs from.5 (number_below 4 16 bs byte)
      then one_held requirement_used (2 ^ 32) (cell 6) bs from.6 (number_below 4 20 bs byte)
      then done)
