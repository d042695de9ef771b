-- Lists that a loop gathers: the images of those indexes that pass a test, written at the front of a column.
use Rattle.std.specs.Prelude.{Bool, List, [], ◌∷◌, map, ℕ}
use Rattle.integers.specs.Totals.{those}
use Rattle.rules.specs.Bytes.{listed}

-- ---- a list at the front of a column; numbers past it stay
module _ {A : Type 0} where
  unfoldable pub headed : List A → List A → List A
  headed [] old = old
  headed (x ∷ xs) [] = []
  headed (x ∷ xs) (y ∷ ys) = x ∷ headed xs ys

-- ---- the images of those of the first n indexes that pass
abbrev pub gathered : {A : Type 0} → (ℕ → Bool) → (ℕ → A) → ℕ → List A
gathered p g n = map g (those p (listed 0 n (λ i. i)))
