-- Every step of an expression fits its width, from bounds on its variables: one test that antt computes.
-- `fits w64 (b h₁ ∷ b h₂ ∷ []) (lit (pos 75) ⊠ (# 0 ⊟ # 1)) tt`, where h₁ : Within k x gives # 0 its value x and its bound k.
-- What it proves is a tuple with a `SFits` for each operation, and `search needs` reads it.
use mathlib.Core.Bool.{Bool, true, false, ◌&&◌}
use mathlib.Core.List.{List, [], ◌∷◌}
use Prim.Native.Nat.{ℕ, zero, suc, ◌+◌, ◌*◌, ◌^◌}
use lib.Dec.{T, ltb}
use lib.IntN.{ℤ, pos, neg_ℤ, nat_abs, ◌+ℤ◌, ◌-ℤ◌, ◌*ℤ◌}
use native.Mathlib.Nat.{le_refl}
use mir.Syntax.{Width}
use mir.Val.{SFits, hbits}
use Rattle.integers.specs.Bounds.{Within}
use Rattle.integers.proofs.Bounds.{within_sum, within_difference, within_product, within_negation, within_natural, fits_within}
use Rattle.integers.proofs.Polynomials.{E, #, lit, ◌⊞◌, ◌⊟◌, ◌⊠◌, neg'}

-- a number with its bound
pub record B : Type 0 where
  pub z : ℤ
  pub k : ℕ
  pub ok : Within k z

abbrev pub b : {k : ℕ} {z : ℤ} → Within k z → B
b {k} {z} h = record { z = z; k = k; ok = h }

pub within_zero : Within 0 (pos 0)
within_zero = within_natural (le_refl 0)

abbrev pub nthB : List B → ℕ → B
nthB [] i = b within_zero
nthB (x ∷ ρ) zero = x
nthB (x ∷ ρ) (suc i) = nthB ρ i

abbrev pub val : List B → E → ℤ
val ρ (# i) = (nthB ρ i).z
val ρ (lit c) = c
val ρ (x ⊞ y) = val ρ x +ℤ val ρ y
val ρ (x ⊟ y) = val ρ x -ℤ val ρ y
val ρ (x ⊠ y) = val ρ x *ℤ val ρ y
val ρ (neg' x) = neg_ℤ (val ρ x)

abbrev pub size : List B → E → ℕ
size ρ (# i) = (nthB ρ i).k
size ρ (lit c) = nat_abs c
size ρ (x ⊞ y) = size ρ x + size ρ y
size ρ (x ⊟ y) = size ρ x + size ρ y
size ρ (x ⊠ y) = size ρ x * size ρ y
size ρ (neg' x) = size ρ x

pub bound : (ρ : List B) (e : E) → Within (size ρ e) (val ρ e)
bound ρ (# i) = (nthB ρ i).ok
bound ρ (lit c) = record { size = le_refl (nat_abs c) }
bound ρ (x ⊞ y) = within_sum (bound ρ x) (bound ρ y)
bound ρ (x ⊟ y) = within_difference (bound ρ x) (bound ρ y)
bound ρ (x ⊠ y) = within_product (bound ρ x) (bound ρ y)
bound ρ (neg' x) = within_negation (bound ρ x)

abbrev pub Ok : Width → List B → E → Bool
Ok w ρ (# i) = true
Ok w ρ (lit c) = true
Ok w ρ (x ⊞ y) = Ok w ρ x && (Ok w ρ y && ltb (size ρ x + size ρ y) (2 ^ hbits w))
Ok w ρ (x ⊟ y) = Ok w ρ x && (Ok w ρ y && ltb (size ρ x + size ρ y) (2 ^ hbits w))
Ok w ρ (x ⊠ y) = Ok w ρ x && (Ok w ρ y && ltb (size ρ x * size ρ y) (2 ^ hbits w))
Ok w ρ (neg' x) = Ok w ρ x && ltb (size ρ x) (2 ^ hbits w)

abbrev pub Steps : Width → List B → E → Type 0
Steps w ρ (# i) = Unit {0}
Steps w ρ (lit c) = Unit {0}
Steps w ρ (x ⊞ y) = Steps w ρ x × Steps w ρ y × SFits w (val ρ x +ℤ val ρ y)
Steps w ρ (x ⊟ y) = Steps w ρ x × Steps w ρ y × SFits w (val ρ x -ℤ val ρ y)
Steps w ρ (x ⊠ y) = Steps w ρ x × Steps w ρ y × SFits w (val ρ x *ℤ val ρ y)
Steps w ρ (neg' x) = Steps w ρ x × SFits w (neg_ℤ (val ρ x))

fst : (s t : Bool) → T (s && t) → T s
fst true t h = tt
fst false t h = h

snd : (s t : Bool) → T (s && t) → T t
snd true t h = h
snd false t h = absurd h

pub fits : (w : Width) (ρ : List B) (e : E) → T (Ok w ρ e) → Steps w ρ e
fits w ρ (# i) t = tt
fits w ρ (lit c) t = tt
fits w ρ (x ⊞ y) t = (
  fits w ρ x (fst (Ok w ρ x) _ t),
  fits w ρ y (fst (Ok w ρ y) _ (snd (Ok w ρ x) _ t)),
  fits_within (snd (Ok w ρ y) _ (snd (Ok w ρ x) _ t)) (bound ρ (x ⊞ y)),
)
fits w ρ (x ⊟ y) t = (
  fits w ρ x (fst (Ok w ρ x) _ t),
  fits w ρ y (fst (Ok w ρ y) _ (snd (Ok w ρ x) _ t)),
  fits_within (snd (Ok w ρ y) _ (snd (Ok w ρ x) _ t)) (bound ρ (x ⊟ y)),
)
fits w ρ (x ⊠ y) t = (
  fits w ρ x (fst (Ok w ρ x) _ t),
  fits w ρ y (fst (Ok w ρ y) _ (snd (Ok w ρ x) _ t)),
  fits_within (snd (Ok w ρ y) _ (snd (Ok w ρ x) _ t)) (bound ρ (x ⊠ y)),
)
fits w ρ (neg' x) t = (fits w ρ x (fst (Ok w ρ x) _ t), fits_within (snd (Ok w ρ x) _ t) (bound ρ (neg' x)))
