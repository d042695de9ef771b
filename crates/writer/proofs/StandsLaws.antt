-- Where a unit stands, case by case: first, without a group, behind a unit of its group, behind another.
use mathlib.Core.Path.{◌≡◌, refl}
use mathlib.Core.Bool.{true, ◌&&◌}
use mathlib.Core.List.{List}
use Prim.Native.Nat.{ℕ, zero, suc, ◌-◌}
use native.Mathlib.Omega.{arith}
use lib.Dec.{eqb}
use lib.IntN.{ℤ}
use borrow.Author.Tests.{eq-eqb, ne_eqb}
use Rattle.book.specs.declared.UnitFields.{UnitFields}
use Rattle.book.specs.Defaults.{none_in_three}
use Rattle.writer.specs.Judged.{row_region, row_group, new_before, stands}

module _ (f : UnitFields) (rows : List ℤ) where
  pub stands_first : (n : ℕ) → n ≡ 0 → stands f rows n ≡ true
  unfolding stands
  stands_first zero e = refl
  stands_first (suc n) e = absurd (omega arith)

  pub stands_alone : (n : ℕ) → (n ≡ 0 → ⊥) → f.group ≡ 0 → stands f rows n ≡ true
  unfolding stands
  stands_alone zero d e = absurd (d refl)
  stands_alone (suc n) d e = rw e

  pub stands_behind : (n : ℕ) → (n ≡ 0 → ⊥) → (f.group ≡ 0 → ⊥) → row_group rows (n - 1) ≡ f.group →
      stands f rows n ≡ eqb (row_region rows (n - 1)) f.region && (none_in_three f.raise && none_in_three f.lower)
  unfolding stands
  stands_behind zero d some e = absurd (d refl)
  stands_behind (suc n) d some e =
      let before : suc n - 1 ≡ n = omega arith in
      rw (before, ne_eqb f.group 0 some, eq-eqb (row_group rows n) f.group (rw before at e))

  pub stands_new : (n : ℕ) → (n ≡ 0 → ⊥) → (f.group ≡ 0 → ⊥) → (row_group rows (n - 1) ≡ f.group → ⊥) → stands f rows n ≡ new_before f.group rows n
  unfolding stands
  stands_new zero d some e = absurd (d refl)
  stands_new (suc n) d some e =
      let before : suc n - 1 ≡ n = omega arith in
      rw (ne_eqb f.group 0 some, ne_eqb (row_group rows n) f.group (rw before at e))
