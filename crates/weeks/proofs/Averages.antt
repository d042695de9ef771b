-- The nearest of a total in two digits over n, by dividing the base first: every number on the way is within 64 bits.
use mathlib.Core.Path.{◌≡◌, refl, sym, ◌∙◌, ap}
use Prim.Native.Nat.{ℕ, zero, suc, ◌+◌, ◌*◌, ◌/◌, ◌%◌, ◌≤◌, ◌<◌}
use native.Mathlib.Nat.{div-add-mod', mod-lt, div-le_self, mul-le-mul, mul-le-mul_left}
use native.Mathlib.Omega.{arith}
use lib.IntN.{ℤ, pos, neg_ℤ, ◌-ℤ◌, +ℤ_idl}
use mir.Syntax.{w64}
use mir.Val.{to_z, of_z, SFits}
use mir.Facts.{to_z-of_z}
use Rattle.integers.proofs.Casts.{toZ_small, turned_fits}
use Rattle.integers.specs.Nearest.{nearestℕ}
use Rattle.integers.proofs.Nearest.{nearestℕ_only, nearestℕ_≤}
use Rattle.rules.specs.declared.RunningWeek.{RunningWeek}
use Rattle.rules.specs.Week.{average, most_intervals}
use Rattle.rules.specs.RunningWeek.{base, total_in}
use Rattle.weeks.specs.Runs.{Run}

some_average : (total n : ℕ) → 0 < n → average total n ≡ nearestℕ total n
some_average total zero h = absurd (omega arith)
some_average total (suc n) h = refl

-- the digits' parts, divided apart
divides : (B n h l : ℕ) → h * B + l ≡ (B / n * h + (B % n * h + l) / n) * n + (B % n * h + l) % n
divides B n h l = go (B / n) (B % n) ((B % n * h + l) / n) ((B % n * h + l) % n) (div-add-mod' B n) (div-add-mod' (B % n * h + l) n)
  where
    go : (q r s t : ℕ) → q * n + r ≡ B → s * n + t ≡ r * h + l → h * B + l ≡ (q * h + s) * n + t
    go q r s t e f = omega (arith, ap (λ (z : ℕ). h * z) e)

module _ (r : RunningWeek) (run : Run r) (some : 0 < r.live) where
  abbrev n : ℕ
  n = r.live

  -- what is left to divide, and the whole part
  abbrev rest : ℕ
  rest = base % n * r.high + r.low

  abbrev whole : ℕ
  whole = base / n * r.high + rest / n

  few : n ≤ most_intervals
  few = omega (arith, run.counted, run.short)

  high_≤ : r.high ≤ n
  high_≤ = omega (arith, run.reached)

  pub left_small : base % n * r.high ≤ 4_064_256
  left_small =
      let d : base % n ≤ 2_016 = omega (arith, mod-lt base some, few) in
      let h : r.high ≤ 2_016 = omega (arith, high_≤, few) in
      mul-le-mul d h

  pub taken_small : base / n * r.high ≤ base
  taken_small = omega (arith, mul-le-mul_left (base / n) high_≤, div-add-mod' base n)

  pub rest_small : rest ≤ 4_064_256 + base
  rest_small = omega (arith, left_small, run.small)

  pub whole_small : whole ≤ 4_064_256 + 2 * base
  whole_small = omega (arith, taken_small, rest_small, div-le_self rest n)

  pub rest_below : rest % n < n
  rest_below = mod-lt rest some

  is : total_in r ≡ whole * n + rest % n
  is = divides base n r.high r.low

  within : (q : ℕ) → nearestℕ (total_in r) n ≡ q → q ≤ base
  within q e = rw e at (nearestℕ_≤ (total_in r) n some base (omega (arith, run.reached)))

  is_average : (q : ℕ) → nearestℕ (total_in r) n ≡ q → (q ≡ average (total_in r) n) × (q ≤ base)
  is_average q e = (sym (some_average (total_in r) n some ∙ e), within q e)

  pub rounds_down : 2 * (rest % n) < n → (whole ≡ average (total_in r) n) × (whole ≤ base)
  rounds_down h = is_average whole (nearestℕ_only (total_in r) n some whole (omega (arith, is)) (omega (arith, is)))

  pub rounds_up : n ≤ 2 * (rest % n) → (whole + 1 ≡ average (total_in r) n) × (whole + 1 ≤ base)
  rounds_up h = is_average (whole + 1) (nearestℕ_only (total_in r) n some (whole + 1) (omega (arith, is, rest_below)) (omega (arith, is, rest_below)))

-- ---- a size as a default
pub turned_fits_in : (a : ℕ) → a ≤ base → SFits w64 (pos 0 -ℤ to_z w64 a)
turned_fits_in a h = rw (toZ_small w64 {n = a} (omega arith)) (turned_fits w64 a (omega arith))

pub turned_is : (a : ℕ) → a ≤ base → to_z w64 (of_z w64 (pos 0 -ℤ to_z w64 a)) ≡ neg_ℤ (pos a)
turned_is a h = to_z-of_z (turned_fits_in a h) ∙ ap (λ (z : ℤ). pos 0 -ℤ z) (toZ_small w64 {n = a} (omega arith)) ∙ +ℤ_idl (neg_ℤ (pos a))
