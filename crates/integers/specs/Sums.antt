-- Sums, counts and largest values over the indexes 0 to n - 1. The terms are a function of the index, so no law speaks of lengths.
use Rattle.std.specs.Prelude.{◌≡◌, refl, Bool, true, false, cond, ◌&&◌, ℕ, zero, suc, ◌+◌, max, ℤ, pos, ◌+ℤ◌}
use Rattle.std.proofs.lemmas.Bool.{false≢true}

-- ---- the definitions
unfoldable pub sum : ℕ → (ℕ → ℤ) → ℤ
sum zero f = pos 0
sum (suc n) f = sum n f +ℤ f n

unfoldable pub sumℕ : ℕ → (ℕ → ℕ) → ℕ
sumℕ zero f = 0
sumℕ (suc n) f = sumℕ n f + f n

-- 1 where a test holds
abbrev pub one : Bool → ℕ
one true = 1
one false = 0

abbrev pub count : ℕ → (ℕ → Bool) → ℕ
count n p = sumℕ n (λ i. one (p i))

unfoldable pub every : ℕ → (ℕ → Bool) → Bool
every zero p = true
every (suc n) p = every n p && p n

-- the first of so many at which a test fails, from 1; 0 where there is none
unfoldable pub first_wrong : (ℕ → Bool) → ℕ → ℕ
first_wrong p zero = 0
first_wrong p (suc n) = cond (every n p) (cond (p n) 0 (suc n)) (first_wrong p n)

unfoldable pub largest : ℕ → (ℕ → ℕ) → ℕ
largest zero f = 0
largest (suc n) f = max (largest n f) (f n)

-- nothing where a test fails
abbrev pub when : Bool → ℤ → ℤ
when t x = cond t x (pos 0)

-- ---- tests
pub both : (s t : Bool) → s && t ≡ true → (s ≡ true) × (t ≡ true)
both true t e = (refl, e)
both false t e = absurd (false≢true e)
