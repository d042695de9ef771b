-- Laws of the definitions in specs/Ranges.antt: sizes by both ends, defaults behind other numbers.
use mathlib.Core.Path.{◌≡◌, refl, sym, ◌∙◌, ap}
use mathlib.Core.Bool.{Bool, true, false, ◌&&◌}
use mathlib.Core.List.{List}
use Prim.Native.Nat.{ℕ, zero, suc, ◌+◌}
use native.Mathlib.Omega.{arith}
use lib.Dec.{leb}
use lib.IntN.{ℤ, pos, negsuc, neg_ℤ}
use lib.Signed.{le_z}
use borrow.Author.Tests.{leb-true, leb-false, le-leb, lt-leb}
use Rattle.integers.proofs.Pairs.{v, neg, le! }
use Rattle.integers.specs.Sums.{every}
use Rattle.integers.proofs.Sums.{every_ext}
use Rattle.integers.proofs.Tests.{le_leZ}
use Rattle.rules.specs.Fields.{sized}
use Rattle.interval.specs.Ranges.{fine_from, six_fine}

-- a size is told by both ends
pub sized_within_bounds : (k : ℕ) (x : ℤ) → le_z (neg_ℤ (pos k)) x && le_z x (pos k) ≡ sized k x
sized_within_bounds k (pos n) = ap (λ (t : Bool). t && leb n k) (le_leZ (le! (neg (v (pos k))) (v (pos n)) (omega arith)))
sized_within_bounds zero (negsuc n) = sym (lt-leb (suc n) 0 (omega arith))
sized_within_bounds (suc k) (negsuc n) = swapped (leb n k) ∙ sym (same k n)
  where
    swapped : (t : Bool) → t && true ≡ t
    swapped true = refl
    swapped false = refl

    same : (k n : ℕ) → leb (suc n) (suc k) ≡ leb n k
    same k n = go (leb n k) refl
      where
        go : (t : Bool) → leb n k ≡ t → leb (suc n) (suc k) ≡ t
        go true e = le-leb (suc n) (suc k) (omega (arith, leb-true n k e))
        go false e = lt-leb (suc n) (suc k) (omega (arith, leb-false n k e))

-- behind so many others
pub six_behind : (n : ℕ) (least : ℤ) (start : ℕ) (xs : List ℤ) → six_fine least (start + n) xs ≡ every 6 (λ i. fine_from least xs (start + (n + i)))
six_behind n least start xs =
    every_ext 6 (λ i. fine_from least xs (start + n + i)) (λ i. fine_from least xs (start + (n + i)))
    (λ i h. let e : start + n + i ≡ start + (n + i) = omega arith in ap (fine_from least xs) e)
