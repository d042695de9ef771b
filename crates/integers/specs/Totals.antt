-- Totals over the elements of a list, the elements that pass a test, and lists with their indexes.
use Rattle.std.specs.Prelude.{Bool, true, cond, ◌&&◌, List, [], ◌∷◌, ℕ, suc, ◌+◌, ℤ, pos, ◌+ℤ◌}

-- ---- the definitions
module _ {A : Type 0} where
  unfoldable pub total : (A → ℤ) → List A → ℤ
  total f [] = pos 0
  total f (x ∷ xs) = f x +ℤ total f xs

  unfoldable pub totalℕ : (A → ℕ) → List A → ℕ
  totalℕ f [] = 0
  totalℕ f (x ∷ xs) = f x + totalℕ f xs

  -- those that pass a test
  unfoldable pub those : (A → Bool) → List A → List A
  those p [] = []
  those p (x ∷ xs) = cond (p x) (x ∷ those p xs) (those p xs)

  unfoldable pub all : (A → Bool) → List A → Bool
  all p [] = true
  all p (x ∷ xs) = p x && all p xs

  -- what holds of each element
  unfoldable pub All : (A → Type 0) → List A → Type 0
  All P [] = Unit {0}
  All P (x ∷ xs) = P x × All P xs

-- each element's image, with its index
unfoldable pub numbered : {A B : Type 0} → (ℕ → A → B) → List A → List B
numbered f [] = []
numbered f (x ∷ xs) = f 0 x ∷ numbered (λ i. f (suc i)) xs
