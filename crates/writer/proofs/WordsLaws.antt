-- Laws of numbers that are handed in: what a test says of a number, and what the machine makes of one below zero.
use mathlib.Core.Path.{◌≡◌, refl, sym, ◌∙◌, ap}
use mathlib.Core.Bool.{Bool, true, false, not}
use Prim.Native.Nat.{ℕ, suc, ◌-◌, ◌^◌}
use native.Mathlib.Omega.{arith}
use lib.Dec.{T, ltb}
use lib.IntN.{ℤ, pos, negsuc, nat_abs, ◌+ℤ◌, ◌-ℤ◌}
use lib.Signed.{◌≤ℤ◌, ◌<ℤ◌, le_z, lt_z, non_neg}
use borrow.Author.Tests.{ltb-true, lt-ltb, le-ltb, le-leb, not-true, not-false}
use mir.Syntax.{Width, w64}
use mir.Val.{Fits, SFits, bits, hbits, to_z, of_z}
use mir.Facts.{to_z-of_z}
use Rattle.integers.specs.Pairs.{loss}
use Rattle.integers.proofs.Pairs.{v, ◌⊖◌, lt_in, lt?, le?}
use Rattle.integers.proofs.Casts.{turned as turned_next, fits_up, fits_loss}
use Rattle.integers.proofs.Tests.{ltZ_true, ltZ_false}
use Rattle.rules.specs.Laid.{below, halved, turned}

-- ---- the tests
pub below_zero : (end : ℕ) (x : ℤ) → x <ℤ pos 0 → false ≡ below end x
below_zero end (pos n) h = absurd (omega (arith, lt_in h))
below_zero end (negsuc n) h = refl

pub from_zero : (end : ℕ) (x : ℤ) → pos 0 ≤ℤ x → ltb (nat_abs x) end ≡ below end x
from_zero end (pos n) h = refl
from_zero end (negsuc n) h = absurd h.le

pub any_natural : (x : ℤ) → SFits w64 x → le_z (pos 0) x ≡ below (2 ^ 64) x
any_natural (pos n) f = le-leb 0 n (omega arith) ∙ sym (lt-ltb n (2 ^ 64) (omega (arith, f.sfits)))
any_natural (negsuc n) f = refl

pub under_half : (half : ℕ) (x : ℤ) → lt_z x (pos 0 -ℤ pos half) ≡ true → false ≡ halved half x
under_half half (pos n) e = absurd (omega (arith, lt? (v (pos n)) (v (pos 0) ⊖ v (pos half)) (ltZ_true e)))
under_half half (negsuc n) e = sym (le-ltb n half (omega (arith, lt? (v (negsuc n)) (v (pos 0) ⊖ v (pos half)) (ltZ_true e))))

pub from_half : (half : ℕ) (x : ℤ) → lt_z x (pos 0 -ℤ pos half) ≡ false → lt_z x (pos half) ≡ halved half x
from_half half (pos n) e = refl
from_half half (negsuc n) e = sym (lt-ltb n half (omega (arith, le? (v (pos 0) ⊖ v (pos half)) (v (negsuc n)) (ltZ_false e))))

-- a call's test that a branch turns round, of the number as the machine hands it on
module _ {w : Width} {t : Bool} (p : ℤ → Bool) {x : ℤ} (f : SFits w x) (e : t ≡ p (to_z w (of_z w x))) where
  pub refused : not t ≡ true → p x ≡ false
  refused n = sym (ap p (to_z-of_z f)) ∙ sym e ∙ not-true t n

  pub passed : not t ≡ false → p x ≡ true
  passed n = sym (ap p (to_z-of_z f)) ∙ sym e ∙ not-false t n

-- a number below an end is not below zero, and fits
pub below_fits : {w : Width} (x : ℤ) → below (2 ^ bits w) x ≡ true → T (non_neg x) × Fits w (nat_abs x)
below_fits {w} (pos n) e = (tt, record { fits = ltb-true n (2 ^ bits w) e })
below_fits (negsuc n) e = let z : ◌≡◌ {A = ℕ} 0 1 = cc in absurd (omega arith)

pub halved_fits : {w : Width} (x : ℤ) → halved (2 ^ hbits w) x ≡ true → SFits w x
halved_fits {w} (pos n) e = record { sfits = ltb-true n (2 ^ hbits w) e }
halved_fits {w} (negsuc n) e = record { sfits = ltb-true n (2 ^ hbits w) e }

-- ---- below zero
module _ {w : Width} (x : ℤ) (f : SFits w x) (h : x <ℤ pos 0) where
  -- one more than the number, and its negative
  pub next_fits : SFits w (to_z w (of_z w x) +ℤ pos 1)
  next_fits = rw (to_z-of_z f) (fits_up x h f)

  down : SFits w (pos (loss x - 1))
  down = record { sfits = fits_loss x h f }

  pub turned_fits : SFits w (pos 0 -ℤ to_z w (of_z w (to_z w (of_z w x) +ℤ pos 1)))
  turned_fits = rw (to_z-of_z next_fits, to_z-of_z f, turned_next x h) down

  pub turned_is : to_z w (of_z w (pos 0 -ℤ to_z w (of_z w (to_z w (of_z w x) +ℤ pos 1)))) ≡ pos (loss x - 1)
  turned_is = to_z-of_z turned_fits ∙ rw (to_z-of_z next_fits, to_z-of_z f) (turned_next x h)

pub turned_below : (most : ℕ) (x : ℤ) → x <ℤ pos 0 → most - (loss x - 1) ≡ turned (suc most) x
turned_below most (pos n) h = absurd (omega (arith, lt_in h))
turned_below most (negsuc n) h = omega arith

pub turned_above : (end : ℕ) (x : ℤ) → pos 0 ≤ℤ x → nat_abs x ≡ turned end x
turned_above end (pos n) h = refl
turned_above end (negsuc n) h = absurd h.le
