-- Laws of numbers in bytes: a number byte by byte and by parts, its bound, and its signed reading as a machine's.
use mathlib.Core.Path.{◌≡◌, refl, sym, ◌∙◌, ap}
use mathlib.Core.List.{List, [], ◌∷◌}
use Prim.Native.Nat.{ℕ, zero, suc, ◌+◌, ◌*◌, ◌<◌, ◌≤◌, ◌^◌}
use native.Mathlib.Numerals.{add-one}
use native.Mathlib.Nat.{zero-add, add-zero, suc-add, mul_assoc, pow-succ'}
use native.Mathlib.Omega.{arith}
use lib.ListN.{length, get_or, drop_of_length-le}
use mir.Syntax.{w32, w64}
use mir.Val.{to_z}
use Rattle.integers.proofs.Sums.{none_below}
use Rattle.rules.specs.Bytes.{little, number_at, signed, listed}

-- no bytes hold 0
pub little_none : (n : ℕ) → little n [] ≡ 0
unfolding little
little_none zero = refl
little_none (suc n) = refl

-- a number that starts past the end is 0
pub number_past : (n p : ℕ) (bs : List ℕ) → length bs ≤ p → number_at n p bs ≡ 0
number_past n p bs h = rw (drop_of_length-le bs h) (little_none n)

-- the first byte, and the others
first : (n p : ℕ) (bs : List ℕ) → number_at (suc n) p bs ≡ get_or bs p 0 + 256 * number_at n (suc p) bs
unfolding little
first n zero [] = omega (arith, little_none n)
first n zero (b ∷ bs) = refl
first n (suc p) [] = omega (arith, little_none n)
first n (suc p) (b ∷ bs) = first n p bs

pub number_step : (n p : ℕ) (bs : List ℕ) → number_at (suc n) p bs ≡ get_or bs p 0 + 256 * number_at n (p + 1) bs
number_step n p bs = first n p bs ∙ ap (λ (q : ℕ). get_or bs p 0 + 256 * number_at n q bs) (sym (add-one p))

pub number_none : (p : ℕ) (bs : List ℕ) → number_at 0 p bs ≡ 0
unfolding little
number_none p bs = refl

-- a byte
pub byte_is : (p : ℕ) (bs : List ℕ) → number_at 1 p bs ≡ get_or bs p 0
byte_is p bs = omega (arith, number_step 0 p bs, number_none (p + 1) bs)

-- m bytes, and the n after them
pub number_parts : (m n p : ℕ) (bs : List ℕ) → number_at (m + n) p bs ≡ number_at m p bs + 256 ^ m * number_at n (p + m) bs
number_parts zero n p bs = rw (zero-add n, add-zero p) (omega (arith, number_none p bs))
number_parts (suc m) n p bs =
    let rest = number_at n (p + suc m) bs in
    let place : p + 1 + m ≡ p + suc m = omega arith in
    let others = rw place at (number_parts m n (p + 1) bs) in
    let whole = rw (← suc-add m n) at (number_step (m + n) p bs) in
    let power : 256 ^ suc m * rest ≡ 256 * (256 ^ m * rest) = rw (pow-succ' 256 m, mul_assoc 256 (256 ^ m) rest) in
    omega (arith, others, whole, number_step m p bs, power)

-- four bytes
pub four_is : (p : ℕ) (bs : List ℕ) → number_at 4 p bs ≡ get_or bs p 0 + get_or bs (p + 1) 0 * 256 + get_or bs (p + 2) 0 * 65536 + get_or bs (p + 3) 0 * 16777216
four_is p bs =
    let last : p + 2 + 1 ≡ p + 3 = omega arith in
    let upper = rw last at (number_parts 1 1 (p + 2) bs) in
    omega (arith, number_parts 2 2 p bs, number_parts 1 1 p bs, upper, byte_is p bs, byte_is (p + 1) bs, byte_is (p + 2) bs, byte_is (p + 3) bs)

-- bytes below 256 make a number below 256 ^ n
pub number_below : (n p : ℕ) (bs : List ℕ) → ((i : ℕ) → get_or bs i 0 < 256) → number_at n p bs < 256 ^ n
number_below zero p bs h = omega (arith, number_none p bs)
number_below (suc n) p bs h = rw (pow-succ' 256 n) (omega (arith, number_step n p bs, number_below n (p + 1) bs h, h p))

-- the signed reading is that of the machine's widths
pub signed_four : (x : ℕ) → signed 4 x ≡ to_z w32 x
signed_four x = refl

pub signed_eight : (x : ℕ) → signed 8 x ≡ to_z w64 x
signed_eight x = refl

-- a list of values by index holds f at each index
pub listed_at : {A : Type 0} (i n : ℕ) (f : ℕ → A) (t : ℕ) (d : A) → t < n → get_or (listed i n f) t d ≡ f (i + t)
unfolding listed
listed_at i zero f t d h = none_below t h
listed_at i (suc n) f zero d h = ap f (sym (add-zero i))
listed_at i (suc n) f (suc t) d h = listed_at (suc i) n f t d (omega arith) ∙ ap f (omega arith)

pub listed_from_zero : {A : Type 0} (n : ℕ) (f : ℕ → A) (t : ℕ) (d : A) → t < n → get_or (listed 0 n f) t d ≡ f t
listed_from_zero n f t d h = listed_at 0 n f t d h ∙ ap f (zero-add t)
