-- The units that rows stand for: a row that is passed over for none, as its units are counted in the row behind it, any other for those of its plant. Together
-- they are no more than the rows.
use mathlib.Core.Path.{◌≡◌, refl}
use mathlib.Core.Bool.{Bool, true, false, cond}
use mathlib.Core.List.{List}
use Prim.Native.Nat.{ℕ, zero, suc, ◌+◌, ◌*◌, ◌/◌, ◌%◌, ◌≤◌, ◌<◌}
use native.Mathlib.Numerals.{add-one}
use native.Mathlib.Omega.{arith}
use lib.Dec.{eqb}
use lib.ListN.{get_or}
use borrow.Author.Tests.{eqb-true, eqb-false, ne_eqb}
use Rattle.integers.specs.Sums.{sumℕ}
use Rattle.rules.specs.Quantities.{regions}
use Rattle.rules.specs.Bytes.{bit}
use Rattle.interval.specs.Lent.{passed_over}
use Rattle.kept.specs.Range.{units_at}

abbrev pub units_held : List ℕ → ℕ → ℕ
units_held homes i = cond (eqb (get_or homes i 0) passed_over) 0 (units_at homes i)

module _ (homes : List ℕ) where
  pub units_first : units_at homes 0 ≡ 1
  unfolding units_at
  units_first = refl

  pub units_step : (n : ℕ) → units_at homes (n + 1) ≡ cond (eqb (get_or homes n 0) passed_over) (units_at homes n + 1) 1
  unfolding units_at
  units_step n = rw (add-one n)

  pub units_some : (n : ℕ) → 1 ≤ units_at homes n
  unfolding units_at
  units_some zero = omega arith
  units_some (suc n) = go (eqb (get_or homes n 0) passed_over)
    where
      go : (t : Bool) → 1 ≤ cond t (units_at homes n + 1) 1
      go true = omega arith
      go false = omega arith

  -- each row passed is counted once: among the units that rows stand for, or among those up to the next row
  rows_once : (n : ℕ) → sumℕ n (units_held homes) + units_at homes n ≡ n + 1
  unfolding sumℕ units_at
  rows_once zero = refl
  rows_once (suc n) = go (rows_once n) (eqb (get_or homes n 0) passed_over)
    where
      go :
          sumℕ n (units_held homes) + units_at homes n ≡ n + 1 → (t : Bool) →
          sumℕ n (units_held homes) + cond t 0 (units_at homes n) + cond t (units_at homes n + 1) 1 ≡ suc n + 1
      go h true = omega arith
      go h false = omega arith

  pub held_≤ : (n : ℕ) → sumℕ n (units_held homes) ≤ n
  held_≤ n = omega (arith, rows_once n, units_some n)

  pub units_≤ : (n : ℕ) → units_at homes n ≤ n + 1
  units_≤ n = omega (arith, rows_once n)

  -- a row that names a region stands for its plant
  pub held_there : (i : ℕ) → get_or homes i 0 < 2 * regions → units_held homes i ≡ units_at homes i
  held_there i h = rw (ne_eqb (get_or homes i 0) passed_over (λ e. omega arith))

-- a row that a set of five regions covers names one of them
pub in_a_region : (home set : ℕ) → home ≤ passed_over → set ≤ 31 → bit (home / 2) set ≡ true → home < 2 * regions
in_a_region home set h s e = go (eqb home passed_over) refl
  where
    go : (t : Bool) → eqb home passed_over ≡ t → home < 2 * regions
    go true f =
        let sixth : bit 5 set ≡ true = rw (eqb-true home passed_over f) at e in
        absurd (omega (arith, eqb-true (set / 32 % 2) 1 sixth))
    go false f = omega (arith, eqb-false home passed_over f)
