-- Laws of the definitions in specs/Lists.antt.
use mathlib.Core.Path.{◌≡◌, refl, sym, ◌∙◌, ap}
use mathlib.Core.Bool.{Bool, true, false, cond}
use mathlib.Core.List.{List, [], ◌∷◌, ◌++◌, map, map-append}
use Prim.Native.Nat.{ℕ, zero, suc, ◌+◌, ◌≤◌}
use native.Mathlib.Nat.{zero-add}
use native.Mathlib.Numerals.{add-one}
use native.Mathlib.Omega.{arith}
use lib.ListN.{length, set, take, length-append}
use Rattle.integers.proofs.Sums.{none_below}
use Rattle.integers.specs.Totals.{those}
use Rattle.integers.proofs.Totals.{those_++}
use Rattle.rules.specs.Bytes.{listed}
use Rattle.chain.proofs.ChainLaws.{listed_more}
use Rattle.answer.specs.Lists.{gathered, headed}

-- ---- a list at the front of a column; numbers past it stay
module _ {A : Type 0} where
  pub headed_none : (old : List A) → headed [] old ≡ old
  unfolding headed
  headed_none old = refl

  pub headed_length : (xs old : List A) → length (headed xs old) ≡ length old
  unfolding headed
  headed_length [] old = refl
  headed_length (x ∷ xs) [] = refl
  headed_length (x ∷ xs) (y ∷ ys) = ap suc (headed_length xs ys)

  -- one store more
  pub headed_more : (xs old : List A) (x : A) → set (headed xs old) (length xs) x ≡ headed (xs ++ (x ∷ [])) old
  unfolding headed
  headed_more [] [] x = refl
  headed_more [] (y ∷ ys) x = refl
  headed_more (z ∷ zs) [] x = refl
  headed_more (z ∷ zs) (y ∷ ys) x = ap (λ (l : List A). z ∷ l) (headed_more zs ys x)

  -- what stands at the front is the list
  pub headed_take : (xs old : List A) → length xs ≤ length old → take (length xs) (headed xs old) ≡ xs
  unfolding headed
  headed_take [] [] h = refl
  headed_take [] (y ∷ ys) h = refl
  headed_take (x ∷ xs) [] h = none_below (length xs) h
  headed_take (x ∷ xs) (y ∷ ys) h = ap (λ (l : List A). x ∷ l) (headed_take xs ys (omega arith))

module _ {A : Type 0} (p : ℕ → Bool) (g : ℕ → A) where
  pub gathered_none : gathered p g 0 ≡ []
  unfolding listed those
  gathered_none = refl

  single : (n : ℕ) → map g (those p (n ∷ [])) ≡ cond (p n) (g n ∷ []) []
  unfolding those
  single n = go (p n)
    where
      go : (t : Bool) → map g (cond t (n ∷ []) []) ≡ cond t (g n ∷ []) []
      go true = refl
      go false = refl

  pub gathered_more : (n : ℕ) → gathered p g (n + 1) ≡ gathered p g n ++ cond (p n) (g n ∷ []) []
  gathered_more n =
      ap (λ (m : ℕ). gathered p g m) (add-one n)
      ∙ ap (λ (l : List ℕ). map g (those p l)) (listed_more 0 n (λ i. i) ∙ ap (λ (m : ℕ). listed 0 n (λ i. i) ++ (m ∷ [])) (zero-add n))
      ∙ ap (λ (l : List ℕ). map g l) (those_++ p (listed 0 n (λ i. i)) (n ∷ []))
      ∙ map-append g (those p (listed 0 n (λ i. i))) (those p (n ∷ []))
      ∙ ap (λ (l : List A). gathered p g n ++ l) (single n)

  pub gathered_length : (n : ℕ) → length (gathered p g n) ≤ n
  gathered_length zero = rw gathered_none (omega arith)
  gathered_length (suc n) =
      let more : gathered p g (suc n) ≡ gathered p g n ++ cond (p n) (g n ∷ []) [] = ap (λ (m : ℕ). gathered p g m) (sym (add-one n)) ∙ gathered_more n in
      rw more (omega (arith, length-append (gathered p g n) (cond (p n) (g n ∷ []) []), last (p n), gathered_length n))
    where
      last : (t : Bool) → length (cond t (g n ∷ []) []) ≤ 1
      last true = omega arith
      last false = omega arith
