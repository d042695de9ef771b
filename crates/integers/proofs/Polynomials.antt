-- A solver for equations of polynomials over ℤ: an expression is brought to a dense polynomial with literal coefficients, and the difference of two is tested
-- for zero, which antt computes.
-- `solve (a ∷ b ∷ []) e₁ e₂ tt`, where `# 0` is a, `# 1` is b.
use mathlib.Core.Path.{◌≡◌, refl, sym, ◌∙◌, ap, ap₂}
use mathlib.Core.Bool.{Bool, true, false, ◌&&◌}
use mathlib.Core.List.{List, [], ◌∷◌}
use Prim.Native.Nat.{ℕ, zero, suc}
use native.Mathlib.Omega.{arith}
use lib.Dec.{T, eqb, eqb→eq}
use lib.IntN.{ℤ, pos, negsuc, neg_ℤ, ◌+ℤ◌, ◌-ℤ◌, ◌*ℤ◌, +ℤ_idl, +ℤ_idr, *ℤ-zero, zero-*ℤ}
use Rattle.integers.proofs.Pairs.{ring, v, neg, ◌⊕◌, ◌⊖◌, ◌⊗◌, eq_out, eq?}

-- ---- expressions
infixl 6 ◌⊞◌ ◌⊟◌
infixl 7 ◌⊠◌
pub data E : Type 0 where
  # : ℕ → E
  lit : ℤ → E
  ◌⊞◌ : E → E → E
  ◌⊟◌ : E → E → E
  ◌⊠◌ : E → E → E
  neg' : E → E

abbrev pub nth : List ℤ → ℕ → ℤ
nth [] i = pos 0
nth (x ∷ ρ) zero = x
nth (x ∷ ρ) (suc i) = nth ρ i

abbrev pub den : List ℤ → E → ℤ
den ρ (# i) = nth ρ i
den ρ (lit c) = c
den ρ (a ⊞ b) = den ρ a +ℤ den ρ b
den ρ (a ⊟ b) = den ρ a -ℤ den ρ b
den ρ (a ⊠ b) = den ρ a *ℤ den ρ b
den ρ (neg' a) = neg_ℤ (den ρ a)

-- ---- lists of coefficients, the constant's first, over coefficients of any type
module _ {A : Type 0} where
  abbrev pub addL : (A → A → A) → List A → List A → List A
  addL f [] ws = ws
  addL f (a ∷ us) [] = a ∷ us
  addL f (a ∷ us) (b ∷ ws) = f a b ∷ addL f us ws

  abbrev pub mapL : (A → A) → List A → List A
  mapL f [] = []
  mapL f (a ∷ us) = f a ∷ mapL f us

  abbrev pub mulL : (A → A → A) → (A → A → A) → A → List A → List A → List A
  mulL f g o [] ws = []
  mulL f g o (a ∷ us) ws = addL f (mapL (g a) ws) (o ∷ mulL f g o us ws)

  abbrev pub all_l : (A → Bool) → List A → Bool
  all_l t [] = true
  all_l t (a ∷ us) = t a && all_l t us

  abbrev pub evL : (A → ℤ) → ℤ → List A → ℤ
  evL e x [] = pos 0
  evL e x (a ∷ us) = e a +ℤ x *ℤ evL e x us

-- ---- polynomials in n variables
abbrev pub Poly : ℕ → Type 0
Poly zero = ℤ
Poly (suc n) = List (Poly n)

abbrev pub con : (n : ℕ) → ℤ → Poly n
con zero c = c
con (suc n) c = con n c ∷ []

abbrev pub var : (n : ℕ) → ℕ → Poly n
var zero i = pos 0
var (suc n) zero = con n (pos 0) ∷ con n (pos 1) ∷ []
var (suc n) (suc i) = var n i ∷ []

abbrev pub add : (n : ℕ) → Poly n → Poly n → Poly n
add zero a b = a +ℤ b
add (suc n) a b = addL (add n) a b

abbrev pub mul : (n : ℕ) → Poly n → Poly n → Poly n
mul zero a b = a *ℤ b
mul (suc n) a b = mulL (add n) (mul n) (con n (pos 0)) a b

abbrev pub isZ : ℤ → Bool
isZ (pos n) = eqb n 0
isZ (negsuc n) = false

abbrev pub zer : (n : ℕ) → Poly n → Bool
zer zero a = isZ a
zer (suc n) a = all_l (zer n) a

abbrev pub len : List ℤ → ℕ
len [] = zero
len (x ∷ ρ) = suc (len ρ)

abbrev pub ev : (ρ : List ℤ) → Poly (len ρ) → ℤ
ev [] a = a
ev (x ∷ ρ) a = evL (ev ρ) x a

abbrev pub norm : (n : ℕ) → E → Poly n
norm n (# i) = var n i
norm n (lit c) = con n c
norm n (a ⊞ b) = add n (norm n a) (norm n b)
norm n (a ⊟ b) = add n (norm n a) (mul n (con n (negsuc 0)) (norm n b))
norm n (a ⊠ b) = mul n (norm n a) (norm n b)
norm n (neg' a) = mul n (con n (negsuc 0)) (norm n a)

-- ---- soundness, on lists
module _ {A : Type 0} (f : A → A → A) (e : A → ℤ) (x : ℤ) (ef : (a b : A) → e (f a b) ≡ e a +ℤ e b) where
  ev_add : (us ws : List A) → evL e x (addL f us ws) ≡ evL e x us +ℤ evL e x ws
  ev_add [] ws = sym (+ℤ_idl _)
  ev_add (a ∷ us) [] = sym (+ℤ_idr _)
  ev_add (a ∷ us) (b ∷ ws) =
      rw (ef a b, ev_add us ws)
      (ring ((v (e a) ⊕ v (e b)) ⊕ v x ⊗ (v (evL e x us) ⊕ v (evL e x ws))) ((v (e a) ⊕ v x ⊗ v (evL e x us)) ⊕ (v (e b) ⊕ v x ⊗ v (evL e x ws))) (omega arith))

module _ {A : Type 0} (f g : A → A → A) (o : A) (e : A → ℤ) (x : ℤ) (ef : (a b : A) → e (f a b) ≡ e a +ℤ e b) (eg : (a b : A) → e (g a b) ≡ e a *ℤ e b)
    (eo : e o ≡ pos 0) where
  ev_map : (a : A) (ws : List A) → evL e x (mapL (g a) ws) ≡ e a *ℤ evL e x ws
  ev_map a [] = sym (*ℤ-zero (e a))
  ev_map a (b ∷ ws) =
      rw (eg a b, ev_map a ws)
      (ring (v (e a) ⊗ v (e b) ⊕ v x ⊗ (v (e a) ⊗ v (evL e x ws))) (v (e a) ⊗ (v (e b) ⊕ v x ⊗ v (evL e x ws))) (omega arith))

  ev_mul : (us ws : List A) → evL e x (mulL f g o us ws) ≡ evL e x us *ℤ evL e x ws
  ev_mul [] ws = sym (zero-*ℤ (evL e x ws))
  ev_mul (a ∷ us) ws =
      ev_add f e x ef (mapL (g a) ws) (o ∷ mulL f g o us ws)
      ∙ rw (ev_map a ws, eo, ev_mul us ws)
      (ring (v (e a) ⊗ v (evL e x ws) ⊕ (v (pos 0) ⊕ v x ⊗ (v (evL e x us) ⊗ v (evL e x ws)))) ((v (e a) ⊕ v x ⊗ v (evL e x us)) ⊗ v (evL e x ws))
      (omega arith))

-- ---- soundness
ev_con : (ρ : List ℤ) (c : ℤ) → ev ρ (con (len ρ) c) ≡ c
ev_con [] c = refl
ev_con (x ∷ ρ) c = rw (ev_con ρ c, *ℤ-zero x) (+ℤ_idr c)

ev_var : (ρ : List ℤ) (i : ℕ) → ev ρ (var (len ρ) i) ≡ nth ρ i
ev_var [] i = refl
ev_var (x ∷ ρ) zero = rw (ev_con ρ (pos 0), ev_con ρ (pos 1)) (ring (v (pos 0) ⊕ v x ⊗ (v (pos 1) ⊕ v x ⊗ v (pos 0))) (v x) (omega arith))
ev_var (x ∷ ρ) (suc i) = rw (ev_var ρ i, *ℤ-zero x) (+ℤ_idr _)

ev_+ : (ρ : List ℤ) (a b : Poly (len ρ)) → ev ρ (add (len ρ) a b) ≡ ev ρ a +ℤ ev ρ b
ev_+ [] a b = refl
ev_+ (x ∷ ρ) a b = ev_add (add (len ρ)) (ev ρ) x (λ p q. ev_+ ρ p q) a b

ev_* : (ρ : List ℤ) (a b : Poly (len ρ)) → ev ρ (mul (len ρ) a b) ≡ ev ρ a *ℤ ev ρ b
ev_* [] a b = refl
ev_* (x ∷ ρ) a b = ev_mul (add (len ρ)) (mul (len ρ)) (con (len ρ) (pos 0)) (ev ρ) x (ev_+ ρ) (λ p q. ev_* ρ p q) (ev_con ρ (pos 0)) a b

minus_one : (a : ℤ) → negsuc 0 *ℤ a ≡ neg_ℤ a
minus_one a = ring (v (negsuc 0) ⊗ v a) (neg (v a)) (omega arith)

sound : (ρ : List ℤ) (a : E) → ev ρ (norm (len ρ) a) ≡ den ρ a
sound ρ (# i) = ev_var ρ i
sound ρ (lit c) = ev_con ρ c
sound ρ (a ⊞ b) = ev_+ ρ _ _ ∙ ap₂ ◌+ℤ◌ (sound ρ a) (sound ρ b)
sound ρ (a ⊟ b) = ev_+ ρ _ _ ∙ ap₂ ◌+ℤ◌ (sound ρ a) (ev_* ρ _ _ ∙ ap₂ ◌*ℤ◌ (ev_con ρ (negsuc 0)) (sound ρ b) ∙ minus_one (den ρ b))
sound ρ (a ⊠ b) = ev_* ρ _ _ ∙ ap₂ ◌*ℤ◌ (sound ρ a) (sound ρ b)
sound ρ (neg' a) = ev_* ρ _ _ ∙ ap₂ ◌*ℤ◌ (ev_con ρ (negsuc 0)) (sound ρ a) ∙ minus_one (den ρ a)

-- ---- the test
isZ_is : (a : ℤ) → T (isZ a) → a ≡ pos 0
isZ_is (pos n) t = ap pos (eqb→eq n 0 t)
isZ_is (negsuc n) t = absurd t

both : (s t : Bool) → T (s && t) → T s × T t
both true t h = (tt, h)
both false t h = absurd h

all_zero : {A : Type 0} (t : A → Bool) (e : A → ℤ) (x : ℤ) → ((a : A) → T (t a) → e a ≡ pos 0) → (us : List A) → T (all_l t us) → evL e x us ≡ pos 0
all_zero t e x h [] q = refl
all_zero t e x h (a ∷ us) q =
    let b = both (t a) (all_l t us) q in
    rw (h a b.0, all_zero t e x h us b.1, *ℤ-zero x)

zer_is : (ρ : List ℤ) (a : Poly (len ρ)) → T (zer (len ρ) a) → ev ρ a ≡ pos 0
zer_is [] a t = isZ_is a t
zer_is (x ∷ ρ) a t = all_zero (zer (len ρ)) (ev ρ) x (zer_is ρ) a t

pub solve : (ρ : List ℤ) (a b : E) → T (zer (len ρ) (norm (len ρ) (a ⊟ b))) → den ρ a ≡ den ρ b
solve ρ a b t = same (den ρ a) (den ρ b) (sym (sound ρ (a ⊟ b)) ∙ zer_is ρ _ t)
  where
    same : (x y : ℤ) → x -ℤ y ≡ pos 0 → x ≡ y
    same x y e = eq_out (omega (arith, eq? (v x ⊖ v y) (v (pos 0)) e))
