-- Lists that a loop writes from the front, one store a turn, and lists to which it adds, number by number.
use Rattle.std.specs.Prelude.{List, [], ◌∷◌, ℕ, zero, suc}

-- ---- the first n numbers are g's, the others as they were: what a loop has made so far, and what a call has written
module _ {A : Type 0} where
  unfoldable pub filled : ℕ → (ℕ → A) → List A → List A
  filled n g [] = []
  filled zero g (x ∷ xs) = x ∷ xs
  filled (suc n) g (x ∷ xs) = g 0 ∷ filled n (λ i. g (suc i)) xs
