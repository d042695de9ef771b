-- Laws of the definitions in specs/Multiples.antt.
use mathlib.Core.Path.{◌≡◌, sym, ◌∙◌, ap}
use Prim.Native.Nat.{ℕ, zero, suc, ◌+◌, ◌*◌, ◌-◌, ◌/◌, ◌%◌, ◌≤◌, ◌<◌}
use native.Mathlib.Nat.{div-add-mod', add-mul, mul_assoc, mul_comm, mul-sub}
use native.Mathlib.Omega.{arith}
use Rattle.integers.specs.Multiples.{Multiple, Common}

pub multiple_sum : {d x y : ℕ} → Multiple d x → Multiple d y → Multiple d (x + y)
multiple_sum {d} p q = record { times = p.times + q.times; is = omega (arith, p.is, q.is, add-mul p.times q.times d) }

pub multiple_times : {d x : ℕ} (n : ℕ) → Multiple d x → Multiple d (n * x)
multiple_times {d} n p = record { times = n * p.times; is = ap (λ (z : ℕ). n * z) p.is ∙ sym (mul_assoc n p.times d) }

-- what is left of a multiple when a multiple is taken away
pub multiple_left : {d x : ℕ} (y : ℕ) → Multiple d (x + y) → Multiple d x → Multiple d y
multiple_left {d} y p q =
    let m = p.times in
    let k = q.times in
    record { times = m - k; is = omega (arith, p.is, q.is, mul-sub d m k, mul_comm d m, mul_comm d k) ∙ mul_comm d (m - k) }

-- a multiple above zero is no smaller
pub multiple_≥ : {d n : ℕ} → Multiple d n → 0 < n → d ≤ n
multiple_≥ {d} {n} p h = go p.times p.is
  where
    go : (k : ℕ) → n ≡ k * d → d ≤ n
    go zero e = absurd (omega arith)
    go (suc k) e = omega (arith, add-mul k 1 d)

-- two multiples are that far apart
pub multiples_apart : {d x y : ℕ} → Multiple d x → Multiple d y → x < y → x + d ≤ y
multiples_apart {x} {y} p q h =
    let e : x + (y - x) ≡ y = omega arith in
    omega (arith, multiple_≥ (multiple_left (y - x) (rw e q) p) (omega arith))

-- the greatest common divisor: of a number and 0 it is the number, and of two it is that of the second and what is left of the first
pub common_last : {a : ℕ} → 0 < a → Common a 0 a
common_last h =
    record { some = h; left = record { times = 1; is = omega arith }; right = record { times = 0; is = omega arith }; spread = λ m d p q. p }

pub common_step : {a b g : ℕ} → Common b (a % b) g → Common a b g
common_step {a} {b} c =
    record {
      some = c.some;
      left = rw (← div-add-mod' a b) (multiple_sum (multiple_times (a / b) c.left) c.right);
      right = c.left;
      spread = λ m d p q. c.spread m d q (multiple_left (a % b * d) (rw (← whole d) p) (multiple_times (a / b) q));
    }
  where
    whole : (d : ℕ) → a * d ≡ a / b * (b * d) + a % b * d
    whole d =
        ap (λ (z : ℕ). z * d) (sym (div-add-mod' a b)) ∙ add-mul (a / b * b) (a % b) d ∙ ap (λ (z : ℕ). z + a % b * d) (mul_assoc (a / b) b d)
