-- Numbers in bytes, the lowest byte first (01, The book). A byte past the end counts as 0; the readers of records never look there.
use Rattle.std.specs.Prelude.{Bool, cond, List, [], ◌∷◌, ℕ, zero, suc, ◌+◌, ◌*◌, ◌-◌, ◌/◌, ◌%◌, ◌^◌, eqb, ltb, ℤ, pos, negsuc, drop}

-- the number that the first n bytes hold
unfoldable pub little : ℕ → List ℕ → ℕ
little zero bs = 0
little (suc n) [] = 0
little (suc n) (b ∷ bs) = b + 256 * little n bs

-- the number of n bytes at a place
abbrev pub number_at : ℕ → ℕ → List ℕ → ℕ
number_at n place bs = little n (drop place bs)

-- the same read as signed: the upper half stands for what is below zero
abbrev pub signed : ℕ → ℕ → ℤ
signed n x = cond (ltb x (2 ^ (8 * n - 1))) (pos x) (negsuc (2 ^ (8 * n) - suc x))

abbrev pub integer_at : ℕ → ℕ → List ℕ → ℤ
integer_at n place bs = signed n (number_at n place bs)

-- bit k of a number
abbrev pub bit : ℕ → ℕ → Bool
bit k x = eqb (x / 2 ^ k % 2) 1

-- f at n indexes from i on
unfoldable pub listed : {A : Type 0} → ℕ → ℕ → (ℕ → A) → List A
listed i zero f = []
listed i (suc n) f = f i ∷ listed (suc i) n f
